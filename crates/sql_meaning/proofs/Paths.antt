-- A walk is the filter of its list by what the path carries.
use Rattle.std.specs.Cmp.{IsTotalOrder, IsEquivalence}
use Rattle.std.specs.declared.cmp.Ordering.{Ordering}
use Rattle.std.specs.declared.cmp.Ordering.TheVariants.{Less, Equal}
use Rattle.std.specs.Ordering.{ordering_then, int_cmp, is_le, is_eq}
use Rattle.std.specs.List.{filter, AllByRecursion, flat_map}
use Rattle.std.proofs.Common.{List, [], ◌∷◌, ◌≡◌, refl, ◌∙◌, ◌*ℤ◌, pos, ℤ, ap, map, false, sym}
use Rattle.std.proofs.Common.{subst, ◌++◌, ◌||◌}
use Rattle.std.proofs.lemmas.Cmp.{on_total, then_total, int_cmp_total, eq_by_cmp_equiv}
use Rattle.std.proofs.lemmas.List.Elements.{filter_agree}
use Rattle.list_laws.specs.Order.{Ascends}
use Rattle.list_laws.specs.Tally.{SameTally, tally}
use Rattle.list_laws.specs.FirstComing.{keep_first}
use Rattle.list_laws.proofs.Lists.{all_map, all_filter, all_append}
use Rattle.list_laws.proofs.Orders.{Ascends-sort_by, SameTally-sort_by}
use Rattle.list_laws.proofs.SortedViews.{all_sort}
use Rattle.list_laws.proofs.Tallies.{SameTally-refl, SameTally-filter}
use Rattle.list_laws.proofs.FirstComings.{all_keep}
use Rattle.list_laws.proofs.Unions.{AreApart, once_from_apart, Branch, any_used, AreBranches}
use Rattle.list_laws.proofs.Unions.{union_same}
use Rattle.sql_meaning.specs.Rows.{site_value, Row, Assignment}
use Rattle.sql_meaning.specs.IndexLists.{SortColumn, entry_cmp, by_rowid, sort_columns}
use Rattle.sql_meaning.specs.Values.{Int, Binary, value_cmp, Value}
use Rattle.sql_meaning.specs.Schemas.{RisingRows, Schema}
use Rattle.sql_meaning.specs.Paths.{form_walk, form_holds, SeekForm, part_value, end_value, Path}
use Rattle.sql_meaning.specs.Paths.{TableScan, RowidEq, RowidRange, IndexScan, IndexSeek, Union}
use Rattle.sql_meaning.specs.Paths.{form_of, path_list, walk, carried, is_union, Paths, Nowhere}
use Rattle.sql_meaning.specs.Paths.{Then, same_rowid, walks, any_carried}
use Rattle.sql_meaning.proofs.Seeks.{column_cmp_total, seek_is}
use Rattle.sql_meaning.proofs.Scaled.{scaled_cmp}
use Rattle.list_laws.proofs.Unions.{IsOnce}

pub entry_cmp_total : (ss : List SortColumn) → IsTotalOrder (entry_cmp ss)
entry_cmp_total [] = on_total (λ row. row.rowid) int_cmp_total
entry_cmp_total (s ∷ ss) =
    then_total (on_total (site_value s.site) (column_cmp_total s)) (entry_cmp_total ss)

less_then : (o p : Ordering) → o ≡ Less → ordering_then (ordering_then o Equal) p ≡ Less
less_then o p e = rw e refl

pub rowid_less : (m n : ℤ) (p : Ordering) → int_cmp m n ≡ Less
    → ordering_then (value_cmp Binary (Int m) (Int n)) p ≡ Less
rowid_less m n p e = less_then (int_cmp (m *ℤ pos 10000) (n *ℤ pos 10000)) p (scaled_cmp m n ∙ e)

-- the rows by rowid are in order by it
pub rising_ascends : (rows : List Row) → RisingRows rows → Ascends (entry_cmp (by_rowid ∷ [])) rows
rising_ascends [] h = tt
rising_ascends (row ∷ rows) h = (
  all_map _ _ rows
      (λ later e. ap is_le (rowid_less row.rowid later.rowid (int_cmp row.rowid later.rowid) e))
      h.0,
  rising_ascends rows h.1,
)

pub rising_plain : (rows : List Row) → RisingRows rows → Ascends (entry_cmp []) rows
rising_plain [] h = tt
rising_plain (row ∷ rows) h = (all_map _ _ rows (λ later e. ap is_le e) h.0, rising_plain rows h.1)

form_is : (f : SeekForm) (params : List Value) (env : Assignment) (rows : List Row)
    → Ascends (entry_cmp f.columns) rows
    → form_walk f params env rows ≡ filter (form_holds f params env) rows
form_is f params env rows h =
    seek_is f.columns (map (part_value env params) f.eqs) (end_value env params f.low)
    (end_value env params f.high) rows h

-- the walk of a path that is no union is the filter of the path's list by what it carries, in that
-- list's order
pub walk_is : (schema : Schema) (params : List Value) (path : Path) (rows : List Row)
    (env : Assignment)
    → RisingRows rows → is_union path ≡ false
    → walk schema params path rows env
    ≡ filter (carried schema params path env) (path_list schema path rows)
walk_is schema params TableScan rows env h e =
    form_is (form_of schema TableScan) params env rows (rising_plain rows h)
walk_is schema params (RowidEq part) rows env h e =
    form_is (form_of schema (RowidEq part)) params env rows (rising_ascends rows h)
walk_is schema params (RowidRange low high) rows env h e =
    form_is (form_of schema (RowidRange low high)) params env rows (rising_ascends rows h)
walk_is schema params (IndexScan index) rows env h e =
    form_is (form_of schema (IndexScan index)) params env (path_list schema (IndexScan index) rows)
    (Ascends-sort_by (entry_cmp_total (sort_columns schema index)) rows)
walk_is schema params (IndexSeek index eqs low high) rows env h e =
    form_is (form_of schema (IndexSeek index eqs low high)) params env
    (path_list schema (IndexScan index) rows)
    (Ascends-sort_by (entry_cmp_total (sort_columns schema index)) rows)
walk_is schema params (Union branches) rows env h e = absurd (cc)

list_same : (schema : Schema) (path : Path) (rows : List Row)
    → SameTally (path_list schema path rows) rows
list_same schema TableScan rows = SameTally-refl rows
list_same schema (RowidEq part) rows = SameTally-refl rows
list_same schema (RowidRange low high) rows = SameTally-refl rows
list_same schema (IndexScan index) rows =
    SameTally-sort_by (entry_cmp (sort_columns schema index)) rows
list_same schema (IndexSeek index eqs low high) rows =
    SameTally-sort_by (entry_cmp (sort_columns schema index)) rows
list_same schema (Union branches) rows = SameTally-refl rows

plain_same : (schema : Schema) (params : List Value) (path : Path) (rows : List Row)
    (env : Assignment)
    → RisingRows rows → is_union path ≡ false
    → SameTally (walk schema params path rows env) (filter (carried schema params path env) rows)
plain_same schema params path rows env h e =
    record {
      each = λ f. ap (tally f) (walk_is schema params path rows env h e)
          ∙ (SameTally-filter (carried schema params path env) _ rows
          (list_same schema path rows)).each
          f;
    }

-- what is true of all rows is true of the path's list
pub all_list : (P : Row → Type 0) (schema : Schema) (path : Path) (rows : List Row)
    → AllByRecursion P rows → AllByRecursion P (path_list schema path rows)
all_list P schema TableScan rows h = h
all_list P schema (RowidEq part) rows h = h
all_list P schema (RowidRange low high) rows h = h
all_list P schema (IndexScan index) rows h =
    all_sort P (entry_cmp (sort_columns schema index)) rows h
all_list P schema (IndexSeek index eqs low high) rows h =
    all_sort P (entry_cmp (sort_columns schema index)) rows h
all_list P schema (Union branches) rows h = h

all_plain : (P : Row → Type 0) (schema : Schema) (params : List Value) (path : Path)
    (rows : List Row) (env : Assignment)
    → RisingRows rows → is_union path ≡ false → AllByRecursion P rows
    → AllByRecursion P (walk schema params path rows env)
all_plain P schema params path rows env r e h =
    subst (AllByRecursion P) (sym (walk_is schema params path rows env r e))
    (all_filter P (carried schema params path env) (path_list schema path rows)
    (all_list P schema path rows h))

-- what is true of all rows is true of a walk
mutual
  pub all_walk : (P : Row → Type 0) (schema : Schema) (params : List Value) (path : Path)
      (rows : List Row) (env : Assignment)
      → RisingRows rows → AllByRecursion P rows
      → AllByRecursion P (walk schema params path rows env)
  all_walk P schema params TableScan rows env r h =
      all_plain P schema params TableScan rows env r refl h
  all_walk P schema params (RowidEq part) rows env r h =
      all_plain P schema params (RowidEq part) rows env r refl h
  all_walk P schema params (RowidRange low high) rows env r h =
      all_plain P schema params (RowidRange low high) rows env r refl h
  all_walk P schema params (IndexScan index) rows env r h =
      all_plain P schema params (IndexScan index) rows env r refl h
  all_walk P schema params (IndexSeek index eqs low high) rows env r h =
      all_plain P schema params (IndexSeek index eqs low high) rows env r refl h
  all_walk P schema params (Union branches) rows env r h =
      all_keep same_rowid P (walks schema params branches rows env) []
      (all_walks P schema params branches rows env r h)

  all_walks : (P : Row → Type 0) (schema : Schema) (params : List Value) (paths : Paths)
      (rows : List Row) (env : Assignment)
      → RisingRows rows → AllByRecursion P rows
      → AllByRecursion P (walks schema params paths rows env)
  all_walks P schema params Nowhere rows env r h = tt
  all_walks P schema params (Then path paths) rows env r h =
      all_append P (walk schema params path rows env) (walks schema params paths rows env)
      (all_walk P schema params path rows env r h) (all_walks P schema params paths rows env r h)

pub same_rowid_equiv : IsEquivalence same_rowid
same_rowid_equiv = eq_by_cmp_equiv (on_total (λ row. row.rowid) int_cmp_total)

pub rising_apart : (rows : List Row) → RisingRows rows → AreApart same_rowid rows
rising_apart [] h = tt
rising_apart (row ∷ rows) h = (all_map _ _ rows (λ later e. ap is_eq e) h.0, rising_apart rows h.1)

-- each row is the only one with its rowid
pub rows_once : (rows : List Row) → RisingRows rows → AllByRecursion (IsOnce same_rowid rows) rows
rows_once rows h = once_from_apart same_rowid_equiv rows (rising_apart rows h)

abbrev pub branches_of : Schema → List Value → Paths → List Row → Assignment → List (Branch Row)
branches_of schema params Nowhere rows env = []
branches_of schema params (Then path paths) rows env =
    record { walk = walk schema params path rows env; used = carried schema params path env }
    ∷ branches_of schema params paths rows env

walks_flat : (schema : Schema) (params : List Value) (paths : Paths) (rows : List Row)
    (env : Assignment)
    → walks schema params paths rows env
    ≡ flat_map (λ b. b.walk) (branches_of schema params paths rows env)
walks_flat schema params Nowhere rows env = refl
walks_flat schema params (Then path paths) rows env =
    ap (λ zs. walk schema params path rows env ++ zs) (walks_flat schema params paths rows env)

any_flat : (schema : Schema) (params : List Value) (paths : Paths) (rows : List Row)
    (env : Assignment) (row : Row)
    → any_used (branches_of schema params paths rows env) row
    ≡ any_carried schema params paths env row
any_flat schema params Nowhere rows env row = refl
any_flat schema params (Then path paths) rows env row =
    ap (λ b. carried schema params path env row || b) (any_flat schema params paths rows env row)

-- each walk has the rows on which what its path carries is true, each once
mutual
  pub walk_same : (schema : Schema) (params : List Value) (path : Path) (rows : List Row)
      (env : Assignment)
      → RisingRows rows
      → SameTally (walk schema params path rows env) (filter (carried schema params path env) rows)
  walk_same schema params TableScan rows env h = plain_same schema params TableScan rows env h refl
  walk_same schema params (RowidEq part) rows env h =
      plain_same schema params (RowidEq part) rows env h refl
  walk_same schema params (RowidRange low high) rows env h =
      plain_same schema params (RowidRange low high) rows env h refl
  walk_same schema params (IndexScan index) rows env h =
      plain_same schema params (IndexScan index) rows env h refl
  walk_same schema params (IndexSeek index eqs low high) rows env h =
      plain_same schema params (IndexSeek index eqs low high) rows env h refl
  walk_same schema params (Union branches) rows env h = record {
    each = λ f.
        ap (λ zs. tally f (keep_first same_rowid [] zs))
        (walks_flat schema params branches rows env)
        ∙ (union_same same_rowid_equiv rows (rows_once rows h)
        (branches_of schema params branches rows env)
        (are_branches schema params branches rows env h)).each f
        ∙ ap (tally f) (filter_agree _ _ (any_flat schema params branches rows env) rows);
  }

  are_branches : (schema : Schema) (params : List Value) (paths : Paths) (rows : List Row)
      (env : Assignment)
      → RisingRows rows → AreBranches same_rowid rows (branches_of schema params paths rows env)
  are_branches schema params Nowhere rows env h = tt
  are_branches schema params (Then path paths) rows env h = (
    walk_same schema params path rows env h,
    all_walk (IsOnce same_rowid rows) schema params path rows env h (rows_once rows h),
    are_branches schema params paths rows env h,
  )
