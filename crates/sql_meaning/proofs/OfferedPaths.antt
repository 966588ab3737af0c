-- Scans, seeks and unions of them are offers.
use Rattle.std.specs.List.{AllByRecursion}
use Rattle.std.proofs.Common.{◌≡◌, Some, Bool, true, false, List, sym, ◌∙◌, subst, [], ◌∷◌, refl, ℕ}
use Rattle.std.proofs.Common.{inr, Option, None, slice_get, ◌++◌}
use Rattle.sql_meaning.specs.Paths.{form_of, is_union, IndexSeek, RowidRange, RowidEq, Path}
use Rattle.sql_meaning.specs.Paths.{TableScan, IndexScan, Union}
use Rattle.sql_meaning.specs.Terms.{Term, part_of, MayUse, Carries, LowFrom, HighFrom, FormCarries}
use Rattle.sql_meaning.specs.Terms.{Low, High}
use Rattle.sql_meaning.specs.Choices.{ColumnTerms, part_or, first_that, terms_at, Taken}
use Rattle.sql_meaning.specs.Choices.{edge_of, one_or_none, seek_terms, consumed_of, Seek, seek_of}
use Rattle.sql_meaning.specs.Choices.{seek_offer, rowid_range, rowid_equal, rowid_offer, paths_of}
use Rattle.sql_meaning.specs.Choices.{used_of}
use Rattle.sql_meaning.specs.Rows.{Site, AtRowid}
use Rattle.sql_meaning.specs.Expressions.{BExprs, Nil, More, flat, Any}
use Rattle.sql_meaning.specs.Statements.{has_number, Bound, FitsStatement, item_alias, Conjunct}
use Rattle.sql_meaning.specs.Statements.{table_of}
use Rattle.sql_meaning.specs.Fitting.{IsIndexOf, IsSeekOf, AreSeeksOf}
use Rattle.sql_meaning.proofs.Fitting.{seek_is_path, seek_is_plain}
use Rattle.sql_meaning.specs.UsedTerms.{is_usable, AreUsable, AllOf, PathCarries, IsTerm}
use Rattle.sql_meaning.specs.UsedTerms.{IsBranchTerm}
use Rattle.sql_meaning.specs.UsedTerms.{BranchesCarry, AreBranchTerms, AnyOf}
use Rattle.sql_meaning.specs.Schemas.{Schema}
use Rattle.sql_meaning.specs.OrderState.{columns_at}
use Rattle.sql_meaning.specs.IndexLists.{SortColumn, sort_columns, by_rowid}
use Rattle.sql_meaning.specs.Offers.{IsOffer}
use Rattle.sql_meaning.specs.Conjuncts.{may_serve}
use Rattle.sql_meaning.proofs.Rises.{spots_are}
use Rattle.sql_meaning.proofs.Choices.{AreColumnTerms, first_is, at_is, IsTaken}
use Rattle.sql_meaning.proofs.Choices.{IsBound, bound_is, bounds_taken, seek_taken}
use Rattle.sql_meaning.proofs.Choices.{consumed_terms}

-- of a seek: its path carries its used terms, which are usable and the item's (or
-- the branch's)
pub record IsPlainOffer (P : Term → Type 0) (schema : Schema) (alias : Option ℕ) (placed : List ℕ)
    (o : Seek) : Type 0
  where
    pub carries : FormCarries alias (form_of schema o.path) o.used
    pub usable : AreUsable placed o.used
    pub terms : AllByRecursion P o.used

seek_case : (P : Term → Type 0) (schema : Schema) (alias : Option ℕ) (placed : List ℕ) (index : ℕ)
    (taken : Taken)
    → IsTaken P placed alias (sort_columns schema index) taken → (ts : List Term) → taken.used ≡ ts
    → (o : Seek) → seek_of index taken ts ≡ Some o → IsPlainOffer P schema alias placed o
seek_case P schema alias placed index taken t [] e o f = absurd (cc)
seek_case P schema alias placed index taken t (u ∷ us) e o f =
    let is : record { path = IndexSeek index taken.eqs taken.low taken.high; used = u ∷ us } ≡ o =
    cc in
    subst (IsPlainOffer P schema alias placed) is
    (record {
      carries =
          subst
          (λ (ts : List Term). Carries alias
          (sort_columns schema index) taken.eqs taken.low taken.high ts) e t.carries;
      usable = subst (AreUsable placed) e t.usable;
      terms = subst (AllByRecursion P) e t.terms;
    })

-- a seek by an index
pub seek_plain : (P : Term → Type 0) (schema : Schema) (alias : Option ℕ) (placed : List ℕ)
    (columns : List ColumnTerms) (index : ℕ) (o : Seek)
    → AllByRecursion (AreColumnTerms P) columns
    → seek_offer placed alias columns index (columns_at (slice_get schema.indexes index)) ≡ Some o
    → IsPlainOffer P schema alias placed o
seek_plain P schema alias placed columns index o h f =
    let cs = columns_at (slice_get schema.indexes index) in
    seek_case P schema alias placed index (seek_terms placed alias columns cs)
    (subst
    (λ (ss : List SortColumn). IsTaken P placed alias ss (seek_terms placed alias columns cs))
    (sym (spots_are (slice_get schema.indexes index))) (seek_taken P placed alias columns h cs))
    (seek_terms placed alias columns cs).used refl o f

-- a seek by rowid
rowid_may : (placed : List ℕ) (alias : Option ℕ) (t : Term) → t.column ≡ AtRowid
    → is_usable placed t ≡ true → MayUse alias by_rowid t × (is_usable placed t ≡ true)
rowid_may placed alias t at f = (inr (at, tt), f)

range_plain : (P : Term → Type 0) (schema : Schema) (alias : Option ℕ) (placed : List ℕ)
    (low high : Option Term)
    → IsBound (LowFrom alias by_rowid) P placed low
    → IsBound (HighFrom alias by_rowid) P placed high → (o : Seek)
    → rowid_range low high ≡ Some o → IsPlainOffer P schema alias placed o
range_plain P schema alias placed None None l h o f = absurd (cc)
range_plain P schema alias placed (Some t) high l h o f =
    let is :
    record {
      path = RowidRange (edge_of (Some t)) (edge_of high);
      used = one_or_none (Some t) ++ one_or_none high;
    } ≡ o =
    cc in
    let b = bounds_taken P placed alias by_rowid [] (Some t) high l h in
    subst (IsPlainOffer P schema alias placed) is
    (record { carries = b.carries; usable = b.usable; terms = b.terms })
range_plain P schema alias placed None (Some u) l h o f =
    let is :
    record {
      path = RowidRange None (edge_of (Some u));
      used = one_or_none None ++ one_or_none (Some u);
    } ≡ o =
    cc in
    let b = bounds_taken P placed alias by_rowid [] None (Some u) l h in
    subst (IsPlainOffer P schema alias placed) is
    (record { carries = b.carries; usable = b.usable; terms = b.terms })

equal_plain : (P : Term → Type 0) (schema : Schema) (alias : Option ℕ) (placed : List ℕ)
    (column : Site)
    → column ≡ AtRowid → (ts : List Term)
    → AllByRecursion (λ t. (t.column ≡ column) × (part_of t.kind ≡ Some (part_or t.kind)) × P t) ts
    → (range : Option Seek) → ((o : Seek) → range ≡ Some o → IsPlainOffer P schema alias placed o)
    → (equal : Option Term) → first_that (is_usable placed) ts ≡ equal → (o : Seek)
    → rowid_equal equal range ≡ Some o → IsPlainOffer P schema alias placed o
equal_plain P schema alias placed column is ts h range r None f o g = r o g
equal_plain P schema alias placed column is ts h range r (Some t) f o g =
    let q = first_is _ (is_usable placed) ts t h f in
    let m = rowid_may placed alias t (q.0.0 ∙ is) q.1 in
    let same : record { path = RowidEq (part_or t.kind); used = t ∷ [] } ≡ o = cc in
    subst (IsPlainOffer P schema alias placed) same
    (record { carries = (m.0, q.0.1, refl); usable = (m.1, tt); terms = (q.0.2, tt) })

pub rowid_plain : (P : Term → Type 0) (schema : Schema) (alias : Option ℕ) (placed : List ℕ)
    (columns : List ColumnTerms) (o : Seek)
    → AllByRecursion (AreColumnTerms P) columns → rowid_offer placed columns ≡ Some o
    → IsPlainOffer P schema alias placed o
rowid_plain P schema alias placed columns o h f =
    let here = at_is P AtRowid columns h in
    let ct = terms_at AtRowid columns in
    equal_plain P schema alias placed ct.column here.1 ct.equals here.0.equals _
    (λ q g. range_plain P schema alias placed _ _
    (bound_is Low P placed alias by_rowid ct.column (is_usable placed)
    (λ t at u. rowid_may placed alias t (at ∙ here.1) u) ct.lows here.0.lows _ refl)
    (bound_is High P placed alias by_rowid ct.column (is_usable placed)
    (λ t at u. rowid_may placed alias t (at ∙ here.1) u) ct.highs here.0.highs _ refl) q g)
    (first_that (is_usable placed) ct.equals) refl o f

path_carries : (schema : Schema) (alias : Option ℕ) (path : Path) (ts : List Term)
    → is_union path ≡ false → FormCarries alias (form_of schema path) ts
    → PathCarries schema alias path (AllOf ts)
path_carries schema alias TableScan ts u c = c
path_carries schema alias (RowidEq part) ts u c = c
path_carries schema alias (RowidRange low high) ts u c = c
path_carries schema alias (IndexScan index) ts u c = c
path_carries schema alias (IndexSeek index eqs low high) ts u c = c
path_carries schema alias (Union ps) ts u c = absurd (cc)

-- seeks are offers as the laws ask them
pub plain_offer : (schema : Schema) (bound : Bound) (placed : List ℕ) (item : ℕ) (o : Seek)
    (back : Bool)
    → FitsStatement schema bound → has_number item placed ≡ false
    → IsSeekOf schema (table_of (slice_get bound.items item)) o.path
    → IsPlainOffer (IsTerm schema bound item) schema (item_alias schema bound item) placed o
    → IsOffer schema bound placed
    (record { item = item; path = o.path; reverse = back; consumed = consumed_of o.used })
    (AllOf o.used)
plain_offer schema bound placed item o back fits un k p = record {
  fits = fits;
  unplaced = un;
  path = seek_is_path schema (table_of (slice_get bound.items item)) o.path k;
  carries =
      path_carries schema (item_alias schema bound item) o.path o.used
      (seek_is_plain schema (table_of (slice_get bound.items item)) o.path k) p.carries;
  keys = p.usable;
  comes = p.terms;
  consumes = consumed_terms o.used;
}

no_terms : (alias : Option ℕ) (ss : List SortColumn) → Carries alias ss [] None None []
no_terms alias [] = refl
no_terms alias (s ∷ ss) = ([], [], refl, refl, refl)

-- scans are offers
pub scan_offer : (schema : Schema) (bound : Bound) (placed : List ℕ) (item : ℕ) (back : Bool)
    → FitsStatement schema bound → has_number item placed ≡ false
    → IsOffer schema bound placed
    (record { item = item; path = TableScan; reverse = back; consumed = [] }) (AllOf [])
scan_offer schema bound placed item back fits un =
    record {
      fits = fits;
      unplaced = un;
      path = tt;
      carries = refl;
      keys = tt;
      comes = tt;
      consumes = tt;
    }

pub index_scan_offer : (schema : Schema) (bound : Bound) (placed : List ℕ) (item index : ℕ)
    (back : Bool)
    → FitsStatement schema bound → has_number item placed ≡ false
    → IsIndexOf schema (table_of (slice_get bound.items item)) index
    → IsOffer schema bound placed
    (record { item = item; path = IndexScan index; reverse = back; consumed = [] }) (AllOf [])
index_scan_offer schema bound placed item index back fits un h =
    record {
      fits = fits;
      unplaced = un;
      path = h;
      carries = no_terms (item_alias schema bound item) (sort_columns schema index);
      keys = tt;
      comes = tt;
      consumes = tt;
    }

-- a union has for each branch an offer of its own terms
abbrev pub BranchOffers : Schema → Bound → Conjunct → List ℕ → ℕ → BExprs → List Seek → Type 0
BranchOffers schema bound c placed item Nil [] = Unit {0}
BranchOffers schema bound c placed item Nil (o ∷ os) = ⊥
BranchOffers schema bound c placed item (More e es) [] = ⊥
BranchOffers schema bound c placed item (More e es) (o ∷ os) =
    IsSeekOf schema (table_of (slice_get bound.items item)) o.path
    × IsPlainOffer (IsBranchTerm schema bound c item (flat e)) schema
    (item_alias schema bound item) placed o
    × BranchOffers schema bound c placed item es os

branches_carry : (schema : Schema) (bound : Bound) (c : Conjunct) (placed : List ℕ) (item : ℕ)
    (es : BExprs) (os : List Seek)
    → BranchOffers schema bound c placed item es os
    → BranchesCarry schema (item_alias schema bound item) (paths_of os) (used_of os)
branches_carry schema bound c placed item Nil [] h = tt
branches_carry schema bound c placed item Nil (o ∷ os) h = absurd h
branches_carry schema bound c placed item (More e es) [] h = absurd h
branches_carry schema bound c placed item (More e es) (o ∷ os) h = (
  seek_is_plain schema (table_of (slice_get bound.items item)) o.path h.0,
  h.1.carries,
  branches_carry schema bound c placed item es os h.2,
)

branches_fit : (schema : Schema) (bound : Bound) (c : Conjunct) (placed : List ℕ) (item : ℕ)
    (es : BExprs) (os : List Seek)
    → BranchOffers schema bound c placed item es os
    → AreSeeksOf schema (table_of (slice_get bound.items item)) (paths_of os)
branches_fit schema bound c placed item Nil [] h = tt
branches_fit schema bound c placed item Nil (o ∷ os) h = absurd h
branches_fit schema bound c placed item (More e es) [] h = absurd h
branches_fit schema bound c placed item (More e es) (o ∷ os) h =
    (h.0, branches_fit schema bound c placed item es os h.2)

branches_placed : (schema : Schema) (bound : Bound) (c : Conjunct) (placed : List ℕ) (item : ℕ)
    (es : BExprs) (os : List Seek)
    → BranchOffers schema bound c placed item es os
    → AllByRecursion (AreUsable placed) (used_of os)
branches_placed schema bound c placed item Nil [] h = tt
branches_placed schema bound c placed item Nil (o ∷ os) h = absurd h
branches_placed schema bound c placed item (More e es) [] h = absurd h
branches_placed schema bound c placed item (More e es) (o ∷ os) h =
    (h.1.usable, branches_placed schema bound c placed item es os h.2)

branches_terms : (schema : Schema) (bound : Bound) (c : Conjunct) (placed : List ℕ) (item : ℕ)
    (es : BExprs) (os : List Seek)
    → BranchOffers schema bound c placed item es os
    → AreBranchTerms schema bound c item es (used_of os)
branches_terms schema bound c placed item Nil [] h = tt
branches_terms schema bound c placed item Nil (o ∷ os) h = absurd h
branches_terms schema bound c placed item (More e es) [] h = absurd h
branches_terms schema bound c placed item (More e es) (o ∷ os) h =
    (h.1.terms, branches_terms schema bound c placed item es os h.2)

pub union_offer : (schema : Schema) (bound : Bound) (placed : List ℕ) (item : ℕ) (back : Bool)
    (number : ℕ) (c : Conjunct) (es : BExprs) (os : List Seek)
    → FitsStatement schema bound → has_number item placed ≡ false
    → slice_get bound.conjuncts number ≡ Some c → may_serve bound item c ≡ true → c.expr ≡ Any es
    → BranchOffers schema bound c placed item es os
    → IsOffer schema bound placed
    (record { item = item; path = Union (paths_of os); reverse = back; consumed = [] })
    (AnyOf (used_of os))
union_offer schema bound placed item back number c es os fits un is allowed any h = record {
  fits = fits;
  unplaced = un;
  path = branches_fit schema bound c placed item es os h;
  carries = branches_carry schema bound c placed item es os h;
  keys = branches_placed schema bound c placed item es os h;
  comes =
      record {
        number = number;
        conjunct = c;
        branches = es;
        is = is;
        allowed = allowed;
        any = any;
        terms = branches_terms schema bound c placed item es os h;
      };
  consumes = tt;
}
