-- Columns by their numbers.
use Rattle.std.specs.Prelude.{ℕ, Bool, List, nat_eq}
use Rattle.std.specs.List.{list_any}
use Rattle.schema_model.specs.declared.indexes.IndexColumn.{IndexColumn}

-- a column of the number is there
abbrev pub has_column : ℕ → List IndexColumn → Bool
has_column number columns = list_any (λ c. nat_eq number c.column) columns
