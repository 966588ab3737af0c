-- What figures are asked for, as plain data.
use Rattle.std.specs.Prelude.{ℕ, Bool, List, map, take}
use Rattle.plan_choice.specs.GivenFigures as plain
use Rattle.schema_model.specs.Schemas.{Schema}
use Rattle.schema_model.specs.declared.given.Given.{Given}

-- which indexes are unique, by number
abbrev pub uniques : Schema → List Bool
uniques schema = map (λ index. index.unique) schema.indexes

-- the names of all tables, and of so many indexes
abbrev pub names_of : Schema → ℕ → plain.Names
names_of schema own = record {
  tables = map (λ table. table.name) schema.tables;
  indexes = take own (map (λ index. index.name) schema.indexes);
}

abbrev pub plain_given : Given → plain.Given
plain_given row = record { table = row.table; index = row.index; stat = row.stat }
