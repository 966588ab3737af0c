-- Rows of tables, and assignments of a row to each item of a FROM clause.
use Rattle.std.specs.Prelude.{ℤ, List, ℕ, slice_index_or, Option, Some, None}
use Rattle.list_laws.specs.Nest.{Env}
use Rattle.sql_meaning.specs.Values.{Value, Null, Int}

-- a row as it is stored; where a column is the alias of the rowid, it stands among the values too
pub record Row : Type 0 where
  pub rowid : ℤ
  pub values : List Value

-- a column of a table; the rowid counts as one, and stands before the others
pub data Site : Type 0 where
  AtRowid : Site
  AtColumn : (column : ℕ) → Site

abbrev pub site_value : Site → Row → Value
site_value AtRowid row = Int row.rowid
site_value (AtColumn column) row = slice_index_or row.values column Null

-- for each item of a FROM clause its row or the missing row (that of a LEFT JOIN without a
-- partner), or nothing where the item isn't placed yet
abbrev pub Assignment : Type 0
Assignment = Env (Option Row)

-- each column of the missing row is NULL
abbrev pub row_value : Site → Option (Option Row) → Value
row_value site None = Null
row_value site (Some None) = Null
row_value site (Some (Some row)) = site_value site row

-- what a column of an item holds in an assignment
abbrev pub cell : Assignment → ℕ → Site → Value
cell env item site = row_value site (slice_index_or env item None)
