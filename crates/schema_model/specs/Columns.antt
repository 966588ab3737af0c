-- Columns, by their names.
use Rattle.std.specs.Prelude.{ℕ, zero, suc, Bool, List, [], ◌∷◌, map}
use Rattle.sql_value.specs.declared.values.Affinity.TheVariants.{Integer}
use Rattle.sql_value.specs.declared.values.Collation.TheVariants.{Binary}
use Rattle.sql_meaning.specs.Letters.{folded_bytes}
use Rattle.schema_model.specs.Names.{is_name}
use Rattle.schema_model.specs.declared.columns.Column.{Column}

abbrev pub has_column_name : List ℕ → Column → Bool
has_column_name name column = is_name name (folded_bytes column.name)

abbrev pub column_names : List Column → List (List ℕ)
column_names columns = map (λ column. folded_bytes column.name) columns

abbrev pub rowid_column : Column → Column
rowid_column column = record { name = column.name; affinity = Integer; coll = Binary }

-- the column of the number is the rowid under another name
abbrev pub as_rowid : List Column → ℕ → List Column
as_rowid [] number = []
as_rowid (column ∷ columns) zero = rowid_column column ∷ columns
as_rowid (column ∷ columns) (suc number) = column ∷ as_rowid columns number
