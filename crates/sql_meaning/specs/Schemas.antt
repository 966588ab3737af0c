-- Tables, indexes, and the databases that a schema allows (fileformat2, withoutrowid left out).
use Rattle.std.specs.Prelude.{ℕ, List, Option, Bool, Some, None, slice_get, [], ◌≡◌, ◌∷◌}
use Rattle.std.specs.Prelude.{slice_index_or, length}
use Rattle.std.specs.List.{AllByRecursion}
use Rattle.std.specs.declared.cmp.Ordering.TheVariants.{Less}
use Rattle.std.specs.Ordering.{int_cmp}
use Rattle.sql_meaning.specs.Values.{Collation, Affinity, Binary, BlobAffinity, Null, Int, IsValue}
use Rattle.sql_meaning.specs.Conversions.{IsFixed}
use Rattle.sql_meaning.specs.Rows.{Row}

pub record TableColumn : Type 0 where
  pub affinity : Affinity
  pub collation : Collation

-- `alias` is the column that is an alias of the rowid
pub record Table : Type 0 where
  pub columns : List TableColumn
  pub alias : Option ℕ

-- a key of an index: a column, its collation, and whether it falls
pub record IndexColumn : Type 0 where
  pub column : ℕ
  pub collation : Collation
  pub falling : Bool

pub record Index : Type 0 where
  pub table : ℕ
  pub columns : List IndexColumn

pub record Schema : Type 0 where
  pub tables : List Table
  pub indexes : List Index

-- the same tables with other indexes
abbrev pub with_indexes : Schema → List Index → Schema
with_indexes schema indexes = record { tables = schema.tables; indexes = indexes }

-- a column that isn't there has no affinity and compares as bytes
abbrev pub column_or : Option TableColumn → TableColumn
column_or None = record { affinity = BlobAffinity; collation = Binary }
column_or (Some c) = c

abbrev pub column_of_table : Option Table → ℕ → TableColumn
column_of_table None column = column_or None
column_of_table (Some t) column = column_or (slice_get t.columns column)

abbrev pub alias_of : Option Table → Option ℕ
alias_of None = None
alias_of (Some t) = t.alias

abbrev pub columns_of : Option Table → List TableColumn
columns_of None = []
columns_of (Some t) = t.columns

-- the rows of each table
abbrev pub Database : Type 0
Database = List (List Row)

-- the rows of a table, by rowid; no two have the same
abbrev pub RisingRows : List Row → Type 0
RisingRows [] = Unit {0}
RisingRows (row ∷ rows) =
    AllByRecursion (λ later. int_cmp row.rowid later.rowid ≡ Less) rows × RisingRows rows

-- the alias of the rowid, an INTEGER PRIMARY KEY, holds the rowid
abbrev pub AliasHolds : Option ℕ → Row → Type 0
AliasHolds alias row =
    (column : ℕ) → alias ≡ Some column → slice_index_or row.values column Null ≡ Int row.rowid

-- a row that may stand in the table: each value is one that its column's affinity leaves as it is
pub record ConformsTo (table : Option Table) (row : Row) : Type 0 where
  pub rowid : IsValue (Int row.rowid)
  pub full : length row.values ≡ length (columns_of table)
  pub values : AllByRecursion IsValue row.values
  pub fixed : (number : ℕ) (column : TableColumn)
      → slice_get (columns_of table) number ≡ Some column
      → IsFixed column.affinity (slice_index_or row.values number Null)
  pub alias : AliasHolds (alias_of table) row

-- a database of the schema; UNIQUE and NOT NULL are not asked, so the laws hold without them
pub record IsDatabaseOf (schema : Schema) (database : Database) : Type 0 where
  pub rising : (table : ℕ) → RisingRows (slice_index_or database table [])
  pub conforms : (table : ℕ)
      → AllByRecursion (ConformsTo (slice_get schema.tables table))
      (slice_index_or database table [])
