-- The items of FROM, as names are looked up in them.
use Rattle.std.specs.Prelude.{◌≡◌, ◌<◌, ◌≤◌, ℕ, Option, None, Some, List, [], ◌∷◌, ◌++◌, length}
use Rattle.std.specs.Prelude.{slice_get}
use Rattle.std.specs.List.{AllByRecursion}
use Rattle.sql_meaning.specs.Items.{Item}
use Rattle.sql_bound.specs.Fits.{most_items}
use Rattle.schema_model.specs.Names.{Differ}
use Rattle.schema_model.specs.Schemas.{Schema}
use Rattle.schema_model.specs.declared.tables.Table.{Table}

-- `names` has for each item the name that stands for it, its letters made lower
pub record Scope : Type 0 where
  pub schema : Schema
  pub names : List (List ℕ)
  pub items : List Item

abbrev pub table_of : Schema → Option Item → Option Table
table_of schema None = None
table_of schema (Some item) = slice_get schema.tables item.table

-- the table of the item of a number
abbrev pub table_at : Scope → ℕ → Option Table
table_at scope item = table_of scope.schema (slice_get scope.items item)

abbrev pub no_items : Schema → Scope
no_items schema = record { schema = schema; names = []; items = [] }

abbrev pub with_item : Scope → List ℕ → Item → Scope
with_item scope name item = record {
  schema = scope.schema;
  names = scope.names ++ name ∷ [];
  items = scope.items ++ item ∷ [];
}

-- no more items than a statement may have, of tables that are there, whose names differ
pub record IsScope (scope : Scope) : Type 0 where
  pub named : length scope.names ≡ length scope.items
  pub few : length scope.items ≤ most_items
  pub tables : AllByRecursion (λ i. i.table < length scope.schema.tables) scope.items
  pub differ : Differ scope.names
