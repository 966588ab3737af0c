-- Places that fit the items of a statement, and the rows that stand there.
use Rattle.std.specs.Prelude.{◌≡◌, ◌<◌, ℕ, Option, IfSome, List, [], ◌∷◌, map, length}
use Rattle.std.specs.Prelude.{slice_index_or, None, Vec}
use Rattle.std.specs.Global.{Global}
use Rattle.std.specs.List.{AllByRecursion}
use Rattle.sql_meaning.specs.Items.{Item}
use Rattle.sql_meaning.specs.Rows.{Row, Assignment}
use Rattle.sql_meaning.specs.Schemas.{Database}
use Rattle.sql_eval.specs.Environments.{placed, placed_row}
use Rattle.sql_eval.specs.declared.environment.Place.{Place}
use Rattle.sql_bound.specs.declared.statement.BItem.{BItem}
use denote.Ref.{Bor}

-- where there is a number, the table has a row of it
abbrev pub IsRowOf : Database → ℕ → Option ℕ → Type 0
IsRowOf database table row =
    IfSome row (λ number. number < length (slice_index_or database table []))

-- the place is of the item's table, and where it has a row, the table has it
pub record FitsItem (database : Database) (item : Item) (place : Place) : Type 0 where
  pub table : place.table ≡ item.table
  pub row : IsRowOf database item.table place.row

-- a place for each item
abbrev pub FitPlaces : Database → List Item → List Place → Type 0
FitPlaces database [] [] = Unit {0}
FitPlaces database [] (place ∷ places) = ⊥
FitPlaces database (item ∷ items) [] = ⊥
FitPlaces database (item ∷ items) (place ∷ places) =
    FitsItem database item place × FitPlaces database items places

-- the row of a number in a table, or the missing row
abbrev pub row_at : Database → ℕ → Option ℕ → Option Row
row_at database table row = placed_row database (record { table = table; row = row })

abbrev pub rows_at : Database → ℕ → List (Option ℕ) → List (Option Row)
rows_at database table rows = map (row_at database table) rows

-- no item has a row
abbrev pub empty_places : List BItem → List Place
empty_places items = map (λ i. record { table = i.table; row = None }) items

-- lists of places that are owned, and those that are lent
abbrev pub held : List (Vec Place Global) → List (List Place)
held lists = map (λ places. places.items) lists

abbrev pub lent : List (Bor (List Place)) → List (List Place)
lent lists = map (λ places. places.now) lists

-- what lists of places are seen as
abbrev pub assignments : Database → List (List Place) → List Assignment
assignments database lists = map (placed database) lists

abbrev pub AllFit : Database → List Item → List (List Place) → Type 0
AllFit database items lists = AllByRecursion (FitPlaces database items) lists
