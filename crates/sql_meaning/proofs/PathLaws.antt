-- The laws of paths.
use Rattle.std.specs.List.{AllByRecursion, filter}
use Rattle.std.specs.List.Sorted.{IsPermutation}
use Rattle.std.proofs.Common.{◌≡◌, ℕ, false, List, Option, ◌∙◌, ◌<◌, true, Some, sym, subst, length}
use Rattle.std.proofs.Common.{slice_get, ◌∷◌, refl, ap}
use Rattle.list_laws.specs.Nest.{place, Agree}
use Rattle.list_laws.specs.Tally.{SameTally, tally}
use Rattle.list_laws.specs.FirstComing.{has}
use Rattle.list_laws.proofs.Lists.{all_map, all_both}
use Rattle.list_laws.proofs.Unions.{has_used}
use Rattle.list_laws.proofs.Permutations.{IsPermutation-from_tally}
use Rattle.list_laws.proofs.Orders.{Ascends-sort_by}
use Rattle.list_laws.proofs.Permuted.{IsPermutation-sort_by}
use Rattle.sql_meaning.specs.Values.{Value}
use Rattle.sql_meaning.specs.Rows.{Row, Assignment}
use Rattle.sql_meaning.specs.Schemas.{RisingRows, Schema, AliasHolds}
use Rattle.sql_meaning.specs.Paths.{Path, form_of, path_list, walk, is_union, TableScan, carried}
use Rattle.sql_meaning.specs.Paths.{Union, Paths, same_rowid, RowidEq, RowidRange, IndexScan}
use Rattle.sql_meaning.specs.Paths.{IndexSeek}
use Rattle.sql_meaning.specs.Terms.{Term, terms_true, term_holds, FormCarries}
use Rattle.sql_meaning.specs.Evaluation.{holds}
use Rattle.sql_meaning.specs.Statements.{Conjunct, Bound, has_number, FitsStatement, item_alias}
use Rattle.sql_meaning.specs.Statements.{item_rows}
use Rattle.sql_meaning.specs.UsedTerms.{AllOf, AreUsable, IsTerm, Consumes, AnyOf}
use Rattle.sql_meaning.specs.UsedTerms.{BranchesCarry, UsedPlaced, IsOrTerm, PathCarries}
use Rattle.sql_meaning.specs.IndexLists.{entry_cmp}
use Rattle.sql_meaning.specs.PathLaws.{IndexListsAreSorted, WalksAreFilters, ConsumedConjunctsHold}
use Rattle.sql_meaning.specs.PathLaws.{UnionsHaveEachRowOnce, UnionsMissNoRow}
use Rattle.sql_meaning.proofs.Paths.{walk_is, all_list, all_walk, walk_same, same_rowid_equiv}
use Rattle.sql_meaning.proofs.Paths.{entry_cmp_total, rows_once}
use Rattle.sql_meaning.proofs.Offers.{filter_on, plain_true, terms_placed, carried_true, used_looks}
use Rattle.sql_meaning.proofs.Offers.{used_placed}
use Rattle.sql_meaning.proofs.LikeTerms.{HasNoneMisplaced}
use Rattle.sql_meaning.proofs.PassingTerms.{used_are}
use Rattle.sql_meaning.proofs.TermsHold.{consumed_holds, or_holds}
use Rattle.sql_meaning.proofs.Rises.{walk_carried}
use Rattle.sql_meaning.proofs.Databases.{database_for}
use Rattle.sql_meaning.proofs.Equals.{row_eq, row_true, row_itself}
use Rattle.sql_meaning.proofs.Links.{all_at}
use Rattle.list_laws.proofs.Unions.{IsOnce}
use Rattle.sql_meaning.proofs.UsedTerms.{used_holds}

-- the walk of a path that carries these terms is the filter of its list by them
pub path_lemma : (schema : Schema) (params : List Value) (alias : Option ℕ) (path : Path)
    (rows : List Row) (env : Assignment) (ts : List Term)
    → RisingRows rows → AllByRecursion (AliasHolds alias) rows → is_union path ≡ false
    → FormCarries alias (form_of schema path) ts
    → walk schema params path rows env
    ≡ filter (terms_true env params ts) (path_list schema path rows)
path_lemma schema params alias path rows env ts rising aliased u c =
    walk_is schema params path rows env rising u
    ∙ filter_on _ _ (path_list schema path rows)
    (all_map _ _ _ (λ row k. plain_true schema params alias path env row ts u c k)
    (all_list (AliasHolds alias) schema path rows aliased))

-- each consumed conjunct holds on each row of the walk
pub consumed_on_walk : (schema : Schema) (bound : Bound) (params : List Value) (alias : Option ℕ)
    (path : Path) (rows : List Row) (placed : List ℕ) (item : ℕ) (env : Assignment) (ts : List Term)
    (number : ℕ) (c : Conjunct)
    → RisingRows rows → AllByRecursion (AliasHolds alias) rows → is_union path ≡ false
    → FormCarries alias (form_of schema path) ts → has_number item placed ≡ false
    → item < length env → AreUsable placed ts
    → AllByRecursion (IsTerm schema bound item) ts → Consumes (AllOf ts) number
    → slice_get bound.conjuncts number ≡ Some c
    → AllByRecursion (λ row. holds (place env item (Some row)) params c.expr ≡ true)
    (walk schema params path rows env)
consumed_on_walk schema bound params alias path rows placed item env ts number c rising aliased u
    carries h lt keys comes consumes is =
    all_map _ _ _
    (λ row k.
    let used : used_holds (place env item (Some row)) params item (AllOf ts) ≡ true =
    sym
    (plain_true schema params alias path env row ts u carries k.1
    ∙ terms_placed params placed item env row ts h lt keys)
    ∙ k.0 in
    let r =
    consumed_holds schema bound params item (place env item (Some row))
    (term_holds (place env item (Some row)) params item) (λ t n e h. h) (AllOf ts) number comes
    consumes (sym (used_are (place env item (Some row)) params item (AllOf ts)) ∙ used) in
    subst (λ (z : Conjunct). holds (place env item (Some row)) params z.expr ≡ true)
    (same r.0 c (sym r.1 ∙ is)) r.3)
    (known (walk schema params path rows env)
    (walk_carried schema params path false rows env u rising)
    (all_walk (AliasHolds alias) schema params path rows env rising aliased))
  where
    same : (x y : Conjunct) → Some x ≡ Some y → x ≡ y
    same x y e = cc

    known : (xs : List Row) → AllByRecursion (λ row. carried schema params path env row ≡ true) xs
        → AllByRecursion (AliasHolds alias) xs
        → AllByRecursion
        (λ row. (carried schema params path env row ≡ true) × AliasHolds alias row) xs
    known xs p q = all_both _ _ _ xs (λ row a b. (a, b)) p q

-- a row on which the OR holds, for some rows of the items that aren't placed, is in the walk: the
-- choice is an assignment that gives the row to the item and agrees with env on the placed items
pub union_has : (schema : Schema) (bound : Bound) (params : List Value) (alias : Option ℕ)
    (branches : Paths) (rows : List Row) (placed : List ℕ) (item : ℕ) (env : Assignment)
    (tss : List (List Term)) (o : IsOrTerm schema bound item tss) (row : Row) (choice : Assignment)
    → FitsStatement schema bound → RisingRows rows → AliasHolds alias row
    → HasNoneMisplaced schema bound.items item row → BranchesCarry schema alias branches tss
    → has_number item placed ≡ false → item < length env
    → UsedPlaced placed (AnyOf tss) → Agree (item ∷ placed) (place env item (Some row)) choice
    → holds choice params o.conjunct.expr ≡ true → IsOnce same_rowid rows row
    → has same_rowid (walk schema params (Union branches) rows env) row ≡ true
union_has schema bound params alias branches rows placed item env tss o row choice fits rising
    aliased good carries h lt keys agrees true_there once =
    has_used same_rowid_equiv rows (walk schema params (Union branches) rows env)
    (carried schema params (Union branches) env) row once
    (walk_same schema params (Union branches) rows env rising)
    ∙ carried_true schema params alias (Union branches) placed item env row
    (AnyOf tss) carries aliased h lt keys
    ∙ used_placed schema bound params placed item env row (AnyOf tss) lt keys good
    ∙ sym
    (used_looks schema bound params item placed (AnyOf tss) keys (place env item (Some row)) choice
    agrees)
    ∙ or_holds schema bound params item choice tss o fits true_there

all_of_carries : (schema : Schema) (alias : Option ℕ) (path : Path) (ts : List Term)
    → PathCarries schema alias path (AllOf ts)
    → (is_union path ≡ false) × FormCarries alias (form_of schema path) ts
all_of_carries schema alias TableScan ts c = (refl, c)
all_of_carries schema alias (RowidEq part) ts c = (refl, c)
all_of_carries schema alias (RowidRange low high) ts c = (refl, c)
all_of_carries schema alias (IndexScan index) ts c = (refl, c)
all_of_carries schema alias (IndexSeek index eqs low high) ts c = (refl, c)
all_of_carries schema alias (Union ps) ts c = absurd c

-- lists of rows of the same members as often are permutations of each other
permutes : (xs ys : List Row) → SameTally xs ys → IsPermutation xs ys
permutes = IsPermutation-from_tally row_eq row_true row_itself

pub index_lists_are_sorted : IndexListsAreSorted
index_lists_are_sorted = λ columns rows. (
  IsPermutation-sort_by (entry_cmp columns) rows,
  Ascends-sort_by (entry_cmp_total columns) rows,
)

pub walks_are_filters : WalksAreFilters
walks_are_filters = λ schema bound placed loop ts o database valid params env.
    let here = database_for schema bound database valid in
    let c = all_of_carries schema (item_alias schema bound loop.item) loop.path ts o.carries in
    path_lemma schema params (item_alias schema bound loop.item) loop.path
    (item_rows database bound loop.item) env ts (here.rising loop.item) (here.aliased loop.item)
    c.0 c.1

pub consumed_conjuncts_hold : ConsumedConjunctsHold
consumed_conjuncts_hold = λ schema bound placed loop ts o database valid params env inside.
    let here = database_for schema bound database valid in
    let c = all_of_carries schema (item_alias schema bound loop.item) loop.path ts o.carries in
    all_map _ _ loop.consumed
    (λ number k conjunct is. consumed_on_walk schema bound params
    (item_alias schema bound loop.item) loop.path (item_rows database bound loop.item) placed
    loop.item env ts number conjunct (here.rising loop.item) (here.aliased loop.item) c.0 c.1
    o.unplaced inside o.keys o.comes k is) o.consumes

pub unions_have_each_row_once : UnionsHaveEachRowOnce
unions_have_each_row_once = λ schema bound placed loop tss o database valid params env inside.
    let here = database_for schema bound database valid in
    let rows = item_rows database bound loop.item in
    permutes (walk schema params loop.path rows env) _
    (record {
      each = λ f.
          (walk_same schema params loop.path rows env (here.rising loop.item)).each f
          ∙ ap (tally f)
          (filter_on _ _ rows
          (all_map _ _ rows
          (λ row k. carried_true schema params (item_alias schema bound loop.item) loop.path placed
          loop.item env row (AnyOf tss) o.carries k o.unplaced inside o.keys)
          (here.aliased loop.item)));
    })

-- only a union carries the terms of branches
misses_case : (schema : Schema) (bound : Bound) (params : List Value) (path : Path)
    (rows : List Row) (placed : List ℕ) (item : ℕ) (env : Assignment) (tss : List (List Term))
    (o : IsOrTerm schema bound item tss) (row : Row) (choice : Assignment)
    → FitsStatement schema bound → RisingRows rows → AliasHolds (item_alias schema bound item) row
    → HasNoneMisplaced schema bound.items item row
    → PathCarries schema (item_alias schema bound item) path (AnyOf tss)
    → has_number item placed ≡ false → item < length env → UsedPlaced placed (AnyOf tss)
    → Agree (item ∷ placed) (place env item (Some row)) choice
    → holds choice params o.conjunct.expr ≡ true → IsOnce same_rowid rows row
    → has same_rowid (walk schema params path rows env) row ≡ true
misses_case schema bound params (Union branches) rows placed item env tss o row choice f r a g c =
    union_has schema bound params (item_alias schema bound item) branches rows placed item env tss
    o row choice f r a g c
misses_case schema bound params path rows placed item env tss o row choice f r a g c = absurd c

pub unions_miss_no_row : UnionsMissNoRow
unions_miss_no_row =
    λ schema bound placed loop tss offer o database valid params env choice number row inside at
    agrees h.
    let here = database_for schema bound database valid in
    let rows = item_rows database bound loop.item in
    misses_case schema bound params loop.path rows placed loop.item env tss o row choice offer.fits
    (here.rising loop.item) (all_at _ rows number row (here.aliased loop.item) at)
    (all_at _ rows number row (here.texts loop.item) at) offer.carries
    offer.unplaced inside offer.keys agrees h
    (all_at _ rows number row (rows_once rows (here.rising loop.item)) at)
