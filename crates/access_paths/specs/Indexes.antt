-- The usable indexes of each table of a schema.
use Rattle.std.specs.Prelude.{ℕ, List, map, length}
use Rattle.sql_meaning.specs.Schemas.{Schema}
use Rattle.sql_meaning.specs.Statements.{numbers_from}
use Rattle.plan_choice.specs.Settings.{indexes_on}

abbrev pub indexes_of : Schema → List (List ℕ)
indexes_of schema = map (indexes_on schema) (numbers_from 0 (length schema.tables))
