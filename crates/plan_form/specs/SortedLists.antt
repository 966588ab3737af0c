-- Lists that paths go along, sorted once.
use Rattle.std.specs.Prelude.{◌≡◌, ◌≤◌, List, [], ◌∷◌, map, length}
use Rattle.sql_meaning.specs.Rows.{Row}
use Rattle.sql_meaning.specs.Schemas.{Schema}
use Rattle.sql_meaning.specs.Paths.{Path, form_of, path_list}
use Rattle.index_lists.specs.Lent.{lent_rows}
use Rattle.path_walks.specs.Columns.{plain_sort_column}
use Rattle.path_walks.specs.Ordered.{AreEntries}
use Rattle.plan_form.specs.Seeks.{keys_form}
use Rattle.plan_form.specs.declared.lists.SortedList.{SortedList}

-- the list of a path, over the rows of a table
pub record IsListOf (schema : Schema) (rows : List Row) (path : Path) (list : SortedList) : Type 0
  where
    pub columns : map plain_sort_column list.columns.items ≡ (form_of schema path).columns
    pub rows_are : lent_rows list.rows.items ≡ path_list schema path rows

-- a list for each path
abbrev pub AreListsOf : Schema → List Row → List Path → List SortedList → Type 0
AreListsOf schema rows [] [] = Unit {0}
AreListsOf schema rows [] (list ∷ lists) = ⊥
AreListsOf schema rows (path ∷ paths) [] = ⊥
AreListsOf schema rows (path ∷ paths) (list ∷ lists) =
    IsListOf schema rows path list × AreListsOf schema rows paths lists

-- the lists are those of the paths over the rows, in some schema
pub record IsAlong (rows : List Row) (paths : List Path) (lists : List SortedList) : Type 0 where
  pub schema : Schema
  pub are : AreListsOf schema rows paths lists

-- what a seek asks of the list: a column for each equality part, and rows in the order of the
-- columns
pub record IsSearchable (path : Path) (list : SortedList) : Type 0 where
  pub few : length (keys_form path).eqs ≤ length list.columns.items
  pub ordered : AreEntries (map plain_sort_column list.columns.items) (lent_rows list.rows.items)

-- the list of each path
abbrev pub AreSearchable : List Path → List SortedList → Type 0
AreSearchable [] [] = Unit {0}
AreSearchable [] (list ∷ lists) = ⊥
AreSearchable (path ∷ paths) [] = ⊥
AreSearchable (path ∷ paths) (list ∷ lists) = IsSearchable path list × AreSearchable paths lists
