-- Which bound statements fit a schema: what every layer above may take for granted of a statement.
use Rattle.std.specs.Prelude.{◌≡◌, ◌<◌, ◌≤◌, ℕ, true, false, Some, List, length}
use Rattle.std.specs.Prelude.{slice_get}
use Rattle.std.specs.List.{AllByRecursion}
use Rattle.sql_meaning.specs.Schemas.{Schema, columns_of}
use Rattle.sql_meaning.specs.Items.{Item, FitsExpr}
use Rattle.sql_meaning.specs.Statements.{Bound, Conjunct, OwnersAreLeft, is_left}
use Rattle.sql_meaning.specs.Statements.{table_of}
use Rattle.sql_meaning.specs.Offers.{IsPlannable}
use Rattle.schema_model.specs.declared.indexes.Index.{Index as NamedIndex}
use Rattle.schema_model.specs.Schemas.{Schema as NamedSchema, with_index}
use Rattle.schema_model.specs.PlainSchemas.{plain_schema}
use Rattle.sql_meaning.specs.Expressions.{BExpr, BExprs, Lit, Param, Column, Rowid, Plus, Collate}
use Rattle.sql_meaning.specs.Expressions.{Cmp, OneOf, Like, IsNull, Not, All, Any, Nil, More, names}

-- the most tables of FROM, and the most conditions that AND joins
abbrev pub most_items : ℕ
most_items = 64

abbrev pub most_conjuncts : ℕ
most_conjuncts = 256

-- how many columns an item's table has
abbrev pub width : Schema → List Item → ℕ → ℕ
width schema items item =
    length (columns_of (slice_get schema.tables (table_of (slice_get items item))))

-- each item and column that the expression names is there
abbrev mutual
  pub NamesExist : Schema → List Item → BExpr → Type 0
  NamesExist schema items (Lit v) = Unit {0}
  NamesExist schema items (Param number) = Unit {0}
  NamesExist schema items (Column item column) =
      (item < length items) × (column < width schema items item)
  NamesExist schema items (Rowid item) = item < length items
  NamesExist schema items (Plus e) = NamesExist schema items e
  NamesExist schema items (Collate e collation) = NamesExist schema items e
  NamesExist schema items (Cmp op left right left_conversion right_conversion collation) =
      NamesExist schema items left × NamesExist schema items right
  NamesExist schema items (OneOf negated left entries entry_conversion collation) =
      NamesExist schema items left × AllNamesExist schema items entries
  NamesExist schema items (Like negated e pattern) =
      NamesExist schema items e × NamesExist schema items pattern
  NamesExist schema items (IsNull negated e) = NamesExist schema items e
  NamesExist schema items (Not e) = NamesExist schema items e
  NamesExist schema items (All es) = AllNamesExist schema items es
  NamesExist schema items (Any es) = AllNamesExist schema items es

  pub AllNamesExist : Schema → List Item → BExprs → Type 0
  AllNamesExist schema items Nil = Unit {0}
  AllNamesExist schema items (More e es) =
      NamesExist schema items e × AllNamesExist schema items es

-- its names are there, and each conversion that it keeps is the one that its operands ask for
pub record IsSound (schema : Schema) (items : List Item) (e : BExpr) : Type 0 where
  pub names : NamesExist schema items e
  pub conversions : FitsExpr schema items e

-- the conjunct names no item to the right of its owner
abbrev pub StaysLeft : Conjunct → Type 0
StaysLeft c =
    (owner : ℕ) → c.owner ≡ Some owner → AllByRecursion (λ item. item ≤ owner) (names c.expr)

-- `needs` has for each item the columns that the statement needs of it
pub record Fits (schema : Schema) (bound : Bound) (needs : List (List ℕ)) : Type 0 where
  pub some_item : 0 < length bound.items
  pub few_items : length bound.items ≤ most_items
  pub few_conjuncts : length bound.conjuncts ≤ most_conjuncts
  pub one_changed : bound.rowids ≡ true → length bound.items ≡ 1
  pub tables : AllByRecursion (λ i. i.table < length schema.tables) bound.items
  pub results : AllByRecursion (IsSound schema bound.items) bound.results
  pub conjuncts : AllByRecursion (λ c. IsSound schema bound.items c.expr) bound.conjuncts
  pub keys : AllByRecursion (λ k. IsSound schema bound.items k.expr) bound.keys
  pub needs_each : length needs ≡ length bound.items
  pub needed : (item : ℕ) (columns : List ℕ) → slice_get needs item ≡ Some columns
      → AllByRecursion (λ column. column < width schema bound.items item) columns
  pub first : is_left bound 0 ≡ false
  pub owners : OwnersAreLeft bound
  pub owned : AllByRecursion StaysLeft bound.conjuncts

-- a statement that fits a schema fits it with an index more
abbrev pub FitsWithIndexes : Type 0
FitsWithIndexes =
    (schema : NamedSchema) (index : NamedIndex) (bound : Bound) (needs : List (List ℕ))
    → Fits (plain_schema schema) bound needs
    → Fits (plain_schema (with_index schema index)) bound needs

-- a statement that fits a schema is one that the laws of plans speak of
abbrev pub FittingArePlannable : Type 0
FittingArePlannable =
    (schema : Schema) (bound : Bound) (needs : List (List ℕ)) → Fits schema bound needs
    → IsPlannable schema bound
