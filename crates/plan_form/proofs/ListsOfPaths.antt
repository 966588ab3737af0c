-- The lists of paths, one path further.
use Rattle.std.proofs.Common.{◌≡◌, ◌≤◌, ℕ, zero, suc, ◌+◌, Some, List, [], ◌∷◌, ◌++◌, refl, ap, sym, ◌∙◌}
use Rattle.std.proofs.Common.{length, arith, take, drop, subst, append-nil}
use Rattle.std.specs.List.{slice_get}
use Rattle.sql_meaning.specs.Rows.{Row}
use Rattle.list_laws.proofs.Orders.{Ascends-sort_by}
use Rattle.list_laws.proofs.Turns.{past_end}
use Rattle.sql_meaning.specs.IndexLists.{SortColumn, sort_columns}
use Rattle.sql_meaning.specs.Schemas.{RisingRows, Schema}
use Rattle.sql_meaning.specs.Paths.{Path, TableScan, RowidEq, RowidRange, IndexScan, IndexSeek}
use Rattle.sql_meaning.specs.Paths.{Union, form_of, path_list}
use Rattle.sql_meaning.proofs.Paths.{entry_cmp_total, rising_ascends, rising_plain}
use Rattle.index_lists.specs.Lent.{lent_rows}
use Rattle.path_walks.specs.Ordered.{AreEntries}
use Rattle.plan_form.specs.Seeks.{keys_form}
use Rattle.plan_form.specs.SortedLists.{AreListsOf, AreSearchable, IsListOf}
use Rattle.plan_form.specs.SortedLists.{IsSearchable}
use Rattle.plan_form.specs.declared.lists.SortedList.{SortedList}
use Rattle.plan_form.proofs.PlanSteps.{taken_get}

lists_end : (schema : Schema) (rows : List Row) (paths : List Path) (lists : List SortedList)
    (path : Path) (list : SortedList) → AreListsOf schema rows paths lists
    → IsListOf schema rows path list → AreListsOf schema rows (paths ++ path ∷ []) (lists ++ list ∷ [])
lists_end schema rows [] [] path list h k = (k, tt)
lists_end schema rows [] (l ∷ lists) path list h k = absurd h
lists_end schema rows (p ∷ paths) [] path list h k = absurd h
lists_end schema rows (p ∷ paths) (l ∷ lists) path list h k =
    (h.0, lists_end schema rows paths lists path list h.1 k)

pub lists_more : (schema : Schema) (rows : List Row) (paths : List Path) (i : ℕ) (path : Path)
    (old new : List SortedList) (list : SortedList)
    → slice_get paths i ≡ Some path → new ≡ old ++ list ∷ [] → IsListOf schema rows path list
    → AreListsOf schema rows (take i paths) old → AreListsOf schema rows (take (i + 1) paths) new
lists_more schema rows paths i path old new list at e k h =
    subst (λ (ps : List Path). AreListsOf schema rows ps new) (sym (taken_get paths i path at))
    (subst (λ (ls : List SortedList). AreListsOf schema rows (take i paths ++ path ∷ []) ls) (sym e)
    (lists_end schema rows (take i paths) old path list h k))

-- the list of a path is in the order of what it is sorted by
pub path_list_ordered : (schema : Schema) (path : Path) (rows : List Row) → RisingRows rows
    → AreEntries (form_of schema path).columns (path_list schema path rows)
path_list_ordered schema TableScan rows rising = rising_plain rows rising
path_list_ordered schema (RowidEq part) rows rising = rising_ascends rows rising
path_list_ordered schema (RowidRange low high) rows rising = rising_ascends rows rising
path_list_ordered schema (IndexScan index) rows rising =
    Ascends-sort_by (entry_cmp_total (sort_columns schema index)) rows
path_list_ordered schema (IndexSeek index eqs low high) rows rising =
    Ascends-sort_by (entry_cmp_total (sort_columns schema index)) rows
path_list_ordered schema (Union branches) rows rising = rising_plain rows rising

searchable : (schema : Schema) (rows : List Row) (path : Path) (list : SortedList)
    → RisingRows rows → IsListOf schema rows path list
    → length (keys_form path).eqs ≤ length list.columns.items → IsSearchable path list
searchable schema rows path list rising is few = record {
  few = few;
  ordered = subst
      (λ (ss : List SortColumn). AreEntries ss (lent_rows list.rows.items)) (sym is.columns)
      (subst (λ (rs : List Row). AreEntries (form_of schema path).columns rs) (sym is.rows_are)
      (path_list_ordered schema path rows rising));
}

searchable_end : (paths : List Path) (lists : List SortedList) (path : Path) (list : SortedList)
    → AreSearchable paths lists → IsSearchable path list
    → AreSearchable (paths ++ path ∷ []) (lists ++ list ∷ [])
searchable_end [] [] path list h k = (k, tt)
searchable_end [] (l ∷ lists) path list h k = absurd h
searchable_end (p ∷ paths) [] path list h k = absurd h
searchable_end (p ∷ paths) (l ∷ lists) path list h k =
    (h.0, searchable_end paths lists path list h.1 k)

pub searchable_more : (schema : Schema) (rows : List Row) (paths : List Path) (i : ℕ) (path : Path)
    (old new : List SortedList) (list : SortedList)
    → slice_get paths i ≡ Some path → new ≡ old ++ list ∷ [] → RisingRows rows
    → IsListOf schema rows path list → length (keys_form path).eqs ≤ length list.columns.items
    → AreSearchable (take i paths) old → AreSearchable (take (i + 1) paths) new
searchable_more schema rows paths i path old new list at e rising is few h =
    subst (λ (ps : List Path). AreSearchable ps new) (sym (taken_get paths i path at))
    (subst (λ (ls : List SortedList). AreSearchable (take i paths ++ path ∷ []) ls) (sym e)
    (searchable_end (take i paths) old path list h
    (searchable schema rows path list rising is few)))

pub all_taken : {X : Type 0} (xs : List X) (i : ℕ) → length xs ≤ i → take i xs ≡ xs
all_taken [] zero h = refl
all_taken [] (suc i) h = refl
all_taken (x ∷ xs) zero h = absurd (omega (arith, h))
all_taken (x ∷ xs) (suc i) h = ap (λ l. x ∷ l) (all_taken xs i (omega (arith, h)))

some_is : {X : Type 0} (x y : X) → Some x ≡ Some y → x ≡ y
some_is x y e = cc

pub list_is : (schema : Schema) (rows : List Row) (paths : List Path) (lists : List SortedList)
    (i : ℕ) (path : Path) (list : SortedList) → AreListsOf schema rows paths lists
    → slice_get paths i ≡ Some path → slice_get lists i ≡ Some list
    → IsListOf schema rows path list
list_is schema rows [] [] i path list h e f = absurd (cc)
list_is schema rows [] (l ∷ lists) i path list h e f = absurd h
list_is schema rows (p ∷ paths) [] i path list h e f = absurd h
list_is schema rows (p ∷ paths) (l ∷ lists) zero path list h e f =
    subst (λ (q : Path). IsListOf schema rows q list) (some_is p path e)
    (subst (λ (m : SortedList). IsListOf schema rows p m) (some_is l list f) h.0)
list_is schema rows (p ∷ paths) (l ∷ lists) (suc i) path list h e f =
    list_is schema rows paths lists i path list h.1 e f

pub searchable_at : (paths : List Path) (lists : List SortedList) (i : ℕ) (path : Path)
    (list : SortedList) → AreSearchable paths lists
    → slice_get paths i ≡ Some path → slice_get lists i ≡ Some list → IsSearchable path list
searchable_at [] [] i path list h e f = absurd (cc)
searchable_at [] (l ∷ lists) i path list h e f = absurd h
searchable_at (p ∷ paths) [] i path list h e f = absurd h
searchable_at (p ∷ paths) (l ∷ lists) zero path list h e f =
    subst (λ (q : Path). IsSearchable q list) (some_is p path e)
    (subst (λ (m : SortedList). IsSearchable p m) (some_is l list f) h.0)
searchable_at (p ∷ paths) (l ∷ lists) (suc i) path list h e f =
    searchable_at paths lists i path list h.1 e f

pub as_many : (paths : List Path) (lists : List SortedList) → AreSearchable paths lists
    → length lists ≡ length paths
as_many [] [] h = refl
as_many [] (l ∷ lists) h = absurd h
as_many (p ∷ paths) [] h = absurd h
as_many (p ∷ paths) (l ∷ lists) h = ap suc (as_many paths lists h.1)

-- behind the last path nothing is left
pub all_dropped : {Y : Type 0} (f : List Path → List Y) (paths : List Path) (i : ℕ)
    (before : List Y) → length paths ≤ i → f [] ≡ []
    → before ≡ before ++ f (drop i paths)
all_dropped f paths i before h none =
    sym (append-nil before)
    ∙ ap (λ l. before ++ l) (sym none ∙ ap f (sym (past_end paths i h)))
