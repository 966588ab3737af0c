-- The names that a schema has, and the text of columns.
use Rattle.std.specs.Prelude.{ℕ, List, map, ◌++◌, reverse}
use Rattle.sql_meaning.specs.Schemas as plain
use Rattle.sql_meaning.specs.Values as value
use Rattle.plan_choice.specs.CandidateNames.{Naming}
use Rattle.sql_value.specs.declared.values.Collation.{Collation}
use Rattle.sql_value.specs.declared.values.Collation.TheVariants.{Binary, Nocase, Rtrim}
use Rattle.schema_model.specs.CreateTexts.{column_text}
use Rattle.schema_model.specs.Schemas.{Schema, columns_at, all_names}
use Rattle.schema_model.specs.declared.indexes.IndexColumn.{IndexColumn}

abbrev pub collation_of : value.Collation → Collation
collation_of value.Binary = Binary
collation_of value.Nocase = Nocase
collation_of value.Rtrim = Rtrim

-- a column as it is printed
abbrev pub column_of : plain.IndexColumn → IndexColumn
column_of c = record { column = c.column; coll = collation_of c.collation; desc = c.falling }

-- tables, unread tables and indexes, those that aren't usable too, take their names
abbrev pub naming : Schema → Naming
naming s = record {
  tables = map (λ table. table.name) s.tables;
  taken = all_names s;
  text = λ table columns. column_text (columns_at s.tables table) (map column_of columns);
}

-- those, and names that were made, the last one first
abbrev pub taken_with : Schema → List (List ℕ) → List (List ℕ)
taken_with s made = reverse made ++ all_names s
