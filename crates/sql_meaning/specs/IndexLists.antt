-- The list that an index keeps (fileformat2, "Representation Of SQL Indices").
use Rattle.std.specs.Prelude.{Bool, false, true, List, [], ◌∷◌, map, Option, Some, None, ℕ}
use Rattle.std.specs.Prelude.{slice_get}
use Rattle.std.specs.declared.cmp.Ordering.{Ordering}
use Rattle.std.specs.Ordering.{flip_args, int_cmp, on, then_cmp}
use Rattle.list_laws.specs.Order.{sort_by}
use Rattle.sql_meaning.specs.Values.{Collation, Binary, Value, value_cmp}
use Rattle.sql_meaning.specs.Rows.{Site, AtRowid, Row, site_value, AtColumn}
use Rattle.sql_meaning.specs.Schemas.{Index, Schema}

-- a column that a list is sorted by, with its collation and direction
pub record SortColumn : Type 0 where
  pub site : Site
  pub collation : Collation
  pub falling : Bool

-- a table is kept by its rowid
abbrev pub by_rowid : SortColumn
by_rowid = record { site = AtRowid; collation = Binary; falling = false }

abbrev pub directed : Bool → (Value → Value → Ordering) → Value → Value → Ordering
directed true cmp = flip_args cmp
directed false cmp = cmp

-- the order of a column: its collation, in its direction
abbrev pub column_cmp : SortColumn → Value → Value → Ordering
column_cmp s = directed s.falling (value_cmp s.collation)

-- by each column in turn, then by rowid rising
abbrev pub entry_cmp : List SortColumn → Row → Row → Ordering
entry_cmp [] = on (λ row. row.rowid) int_cmp
entry_cmp (s ∷ ss) = then_cmp (on (site_value s.site) (column_cmp s)) (entry_cmp ss)

-- an index kept true: the rows of its table, by its columns and then by rowid
abbrev pub index_entries : List SortColumn → List Row → List Row
index_entries columns rows = sort_by (entry_cmp columns) rows

abbrev pub index_sort_columns : Option Index → List SortColumn
index_sort_columns None = []
index_sort_columns (Some index) =
    map
    (λ c. record { site = AtColumn c.column; collation = c.collation; falling = c.falling })
    index.columns

-- the columns that an index of the schema is sorted by
abbrev pub sort_columns : Schema → ℕ → List SortColumn
sort_columns schema index = index_sort_columns (slice_get schema.indexes index)
