-- A schema as plain lists, and what is found in it.
use Rattle.std.specs.Prelude.{ℕ, ◌+◌, ◌<◌, ◌≤◌, ◌^◌, Bool, ◌||◌, List, [], ◌∷◌, ◌++◌, length, map}
use Rattle.std.specs.Prelude.{position, slice_get, Option, Some, None, if◌then◌else◌}
use Rattle.std.specs.List.{AllByRecursion}
use Rattle.sql_meaning.specs.Letters.{folded_bytes}
use Rattle.schema_model.specs.Names.{is_name, has_name, Differ}
use Rattle.schema_model.specs.Columns.{has_column_name, column_names}
use Rattle.schema_model.specs.declared.columns.Column.{Column}
use Rattle.schema_model.specs.declared.tables.Table.{Table}
use Rattle.schema_model.specs.declared.indexes.Index.{Index}
use Rattle.schema_model.specs.declared.tables.Found.{Found}
use Rattle.schema_model.specs.declared.tables.Found.TheVariants.{Read, Unread, Missing}

pub record Schema : Type 0 where
  pub tables : List Table
  pub unread : List (List ℕ)
  pub indexes : List Index

abbrev pub table_names : List Table → List (List ℕ)
table_names tables = map (λ table. folded_bytes table.name) tables

abbrev pub unread_names : List (List ℕ) → List (List ℕ)
unread_names names = map folded_bytes names

abbrev pub index_names : List Index → List (List ℕ)
index_names indexes = map (λ index. folded_bytes index.name) indexes

-- some table, unread table or index has the name
abbrev pub is_taken : Schema → List ℕ → Bool
is_taken s name =
    has_name name (table_names s.tables) ||
    (has_name name (unread_names s.unread) || has_name name (index_names s.indexes))

-- the read table of the name by its position, else whether an unread one has it
abbrev pub found_or : Bool → Option ℕ → Found
found_or unread (Some number) = Read number
found_or unread None = if unread then Unread else Missing

abbrev pub found_table : Schema → List ℕ → Found
found_table s name =
    found_or (has_name name (unread_names s.unread))
    (position (is_name name) (table_names s.tables))

abbrev pub found_index : Schema → List ℕ → Option ℕ
found_index s name = position (is_name name) (index_names s.indexes)

abbrev pub found_column : Table → List ℕ → Option ℕ
found_column table name = position (has_column_name name) table.columns

-- tables, unread tables and indexes together
abbrev pub size : Schema → ℕ
size s = length s.tables + length s.unread + length s.indexes

abbrev pub empty : Schema
empty = record { tables = []; unread = []; indexes = [] }

abbrev pub with_table : Schema → Table → Schema
with_table s table = record {
  tables = s.tables ++ table ∷ [];
  unread = s.unread;
  indexes = s.indexes;
}

abbrev pub with_unread : Schema → List ℕ → Schema
with_unread s name = record {
  tables = s.tables;
  unread = s.unread ++ name ∷ [];
  indexes = s.indexes;
}

abbrev pub with_index : Schema → Index → Schema
with_index s index = record {
  tables = s.tables;
  unread = s.unread;
  indexes = s.indexes ++ index ∷ [];
}

abbrev pub IsWithinOption : Option ℕ → ℕ → Type 0
IsWithinOption None count = Unit {0}
IsWithinOption (Some number) count = number < count

-- how many columns a table may have
abbrev pub column_limit : ℕ
column_limit = 2000

pub record IsTable (table : Table) : Type 0 where
  pub few : length table.columns ≤ column_limit
  pub differ : Differ (column_names table.columns)
  pub alias : IsWithinOption table.alias (length table.columns)

abbrev pub columns_of : Option Table → List Column
columns_of None = []
columns_of (Some table) = table.columns

abbrev pub columns_at : List Table → ℕ → List Column
columns_at tables number = columns_of (slice_get tables number)

-- an index whose table and columns are there
pub record IsIndexOf (tables : List Table) (index : Index) : Type 0 where
  pub table : index.table < length tables
  pub columns : AllByRecursion (λ c. c.column < length (columns_at tables index.table))
      index.columns
  pub few : length index.columns < 2 ^ 32

-- the names of tables, unread tables and indexes
abbrev pub all_names : Schema → List (List ℕ)
all_names s = table_names s.tables ++ (unread_names s.unread ++ index_names s.indexes)

pub record IsSchema (s : Schema) : Type 0 where
  pub differ : Differ (all_names s)
  pub few : size s ≤ 2 ^ 31
  pub tables : AllByRecursion IsTable s.tables
  pub indexes : AllByRecursion (IsIndexOf s.tables) s.indexes
