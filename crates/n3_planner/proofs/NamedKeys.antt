-- The keys of a statement's terms name items and columns that are there.
use Rattle.std.proofs.Common.{◌≡◌, ℕ, List, [], ◌∷◌, Option, Some, None, true, false, Bool, cond}
use Rattle.std.proofs.Common.{subst, slice_get, inl, inr, ◌&&◌, ◌==◌}
use Rattle.std.specs.List.{AllByRecursion, filter}
use Rattle.list_laws.proofs.Lists.{all_append, all_filter, all_map, all_mapped}
use Rattle.sql_meaning.specs.Values.{Collation, Affinity}
use Rattle.sql_meaning.specs.Likes.{Range}
use Rattle.sql_meaning.specs.Rows.{Site}
use Rattle.sql_meaning.specs.Schemas.{Schema}
use Rattle.sql_meaning.specs.Items.{Item, own_column}
use Rattle.sql_meaning.specs.Expressions.{BExpr, BExprs, Lit, Param, Column, Rowid, Plus, Collate}
use Rattle.sql_meaning.specs.Expressions.{Cmp, OneOf, Like, IsNull, Not, All, Any, Nil, More}
use Rattle.sql_meaning.specs.Expressions.{flat, flat_all, ColumnRef, plain_column, bare_column}
use Rattle.sql_meaning.specs.Expressions.{ref_expr, Op, IsEqual, IsUnequal, IsBelow, IsAtMost}
use Rattle.sql_meaning.specs.Expressions.{IsAbove, IsAtLeast}
use Rattle.sql_meaning.specs.Paths.{KeyExpr}
use Rattle.sql_meaning.specs.Statements.{Bound, Conjunct, exprs_of}
use Rattle.sql_meaning.specs.Conjuncts.{may_derive}
use Rattle.sql_meaning.specs.Terms.{Term, TermKind, Equals, term_keys, kind_of}
use Rattle.sql_meaning.specs.Terms.{flipped, entry_keys, ComparisonServes}
use Rattle.sql_meaning.specs.Terms.{AreEqualities, Serves}
use Rattle.sql_meaning.specs.Links.{Links, Linked, link, back, chain, Derives, by_key, by_column}
use Rattle.sql_meaning.specs.LikeTerms.{like_terms, column_range, range_terms, below_term}
use Rattle.sql_meaning.specs.LikeTerms.{literal_bounds, orders_as_like}
use Rattle.sql_meaning.specs.UsedTerms.{Used, AllOf, AnyOf, UsedComes, IsTerm, IsBranchTerm}
use Rattle.sql_meaning.specs.UsedTerms.{AreBranchTerms}
use Rattle.sql_meaning.proofs.Links.{all_at}
use Rattle.sql_meaning.proofs.Terms.{some_is}
use Rattle.sql_bound.specs.Fits.{NamesExist, AllNamesExist, IsSound, Fits}
use Rattle.n3_planner.proofs.CarriedKeys.{TermsHave, UsedHave}

abbrev pub KeyExists : Schema → List Item → KeyExpr → Type 0
KeyExists schema items k = NamesExist schema items k.expr

abbrev KeysExist : Schema → List Item → List KeyExpr → Type 0
KeysExist schema items ks = AllByRecursion (KeyExists schema items) ks

kind_has : (P : KeyExpr → Type 0) (op : Op) (key : KeyExpr) (kind : TermKind)
    → kind_of op key ≡ Some kind → P key → AllByRecursion P (term_keys kind)
kind_has P IsEqual key kind e h =
    subst (λ (k : TermKind). AllByRecursion P (term_keys k)) (some_is _ kind e) (h, tt)
kind_has P IsUnequal key kind e h = absurd (cc)
kind_has P IsBelow key kind e h =
    subst (λ (k : TermKind). AllByRecursion P (term_keys k)) (some_is _ kind e) (h, tt)
kind_has P IsAtMost key kind e h =
    subst (λ (k : TermKind). AllByRecursion P (term_keys k)) (some_is _ kind e) (h, tt)
kind_has P IsAbove key kind e h =
    subst (λ (k : TermKind). AllByRecursion P (term_keys k)) (some_is _ kind e) (h, tt)
kind_has P IsAtLeast key kind e h =
    subst (λ (k : TermKind). AllByRecursion P (term_keys k)) (some_is _ kind e) (h, tt)

-- the keys that a conjunct serves are expressions of it
comparison_keys : (schema : Schema) (items : List Item) (item : ℕ) (site : Site)
    (collation : Collation) (kind : TermKind) (e : BExpr)
    → NamesExist schema items e → ComparisonServes item site collation kind e
    → KeysExist schema items (term_keys kind)
comparison_keys schema items item site collation kind (Cmp op left right lc rc c) h (same, inl s) =
    kind_has (KeyExists schema items) op (record { expr = right; conversion = rc }) kind s.says h.1
comparison_keys schema items item site collation kind (Cmp op left right lc rc c) h (same, inr s) =
    kind_has (KeyExists schema items) (flipped op) (record { expr = left; conversion = lc }) kind
    s.says h.0
comparison_keys schema items item site collation kind e h s = absurd s

keys_of_entries : (schema : Schema) (items : List Item) (conversion : Option Affinity)
    (es : BExprs)
    → AllNamesExist schema items es → KeysExist schema items (entry_keys conversion es)
keys_of_entries schema items conversion Nil h = tt
keys_of_entries schema items conversion (More e es) h =
    (h.0, keys_of_entries schema items conversion es h.1)

keys_of_equalities : (schema : Schema) (items : List Item) (item : ℕ) (site : Site)
    (collation : Collation) (es : BExprs) (keys : List KeyExpr)
    → AllNamesExist schema items es → AreEqualities item site collation es keys
    → KeysExist schema items keys
keys_of_equalities schema items item site collation es [] h s = tt
keys_of_equalities schema items item site collation Nil (key ∷ keys) h s = absurd s
keys_of_equalities schema items item site collation (More e es) (key ∷ keys) h s = (
  (comparison_keys schema items item site collation (Equals key) e h.0 s.0).0,
  keys_of_equalities schema items item site collation es keys h.1 s.1,
)

served_keys : (schema : Schema) (items : List Item) (item : ℕ) (site : Site)
    (collation : Collation) (kind : TermKind) (e : BExpr)
    → NamesExist schema items e → Serves item site collation kind e
    → KeysExist schema items (term_keys kind)
served_keys schema items item site collation kind (Cmp op left right lc rc c) h s =
    comparison_keys schema items item site collation kind (Cmp op left right lc rc c) h s
served_keys schema items item site collation kind (OneOf negated left entries ec c) h s =
    rw s.2.says (keys_of_entries schema items ec entries h.1)
served_keys schema items item site collation kind (IsNull negated e) h s = rw s.2 tt
served_keys schema items item site collation kind (Any es) h s =
    rw s.says (keys_of_equalities schema items item site collation es s.keys h s.equalities)
served_keys schema items item site collation kind e h s = absurd s

-- a column that an expression is
same_exists : (schema : Schema) (items : List Item) (c d : ColumnRef) → Some c ≡ Some d
    → NamesExist schema items (ref_expr c) → NamesExist schema items (ref_expr d)
same_exists schema items c d e h =
    subst (λ (r : ColumnRef). NamesExist schema items (ref_expr r)) (some_is c d e) h

plain_exists : (schema : Schema) (items : List Item) (e : BExpr) (c : ColumnRef)
    → plain_column e ≡ Some c → NamesExist schema items e → NamesExist schema items (ref_expr c)
plain_exists schema items (Column item column) c is h = same_exists schema items _ c is h
plain_exists schema items (Rowid item) c is h = same_exists schema items _ c is h
plain_exists schema items e c is h = absurd (cc)

bare_exists : (schema : Schema) (items : List Item) (e : BExpr) (c : ColumnRef)
    → bare_column e ≡ Some c → NamesExist schema items e → NamesExist schema items (ref_expr c)
bare_exists schema items (Collate e collation) c is h = plain_exists schema items e c is h
bare_exists schema items e c is h = plain_exists schema items e c is h

abbrev BothExist : Schema → List Item → ColumnRef → ColumnRef → Type 0
BothExist schema items c d =
    NamesExist schema items (ref_expr c) × NamesExist schema items (ref_expr d)

ends_exist : (schema : Schema) (items : List Item) (c d : ColumnRef) (e : BExpr)
    → NamesExist schema items e → Links schema items c d e → BothExist schema items c d
ends_exist schema items c d (Cmp IsEqual left right lc rc collation) h l =
    (bare_exists schema items left c l.is_c h.0, bare_exists schema items right d l.is_d h.1)
ends_exist schema items c d e h l = absurd l

linked_exist : (schema : Schema) (items : List Item) (es : List BExpr) (c d : ColumnRef)
    → AllByRecursion (NamesExist schema items) es → Linked schema items es c d
    → BothExist schema items c d
linked_exist schema items es _ _ h (link c d number e at l) =
    ends_exist schema items c d e (all_at (NamesExist schema items) es number e h at) l
linked_exist schema items es _ _ h (back c d l) =
    let both = linked_exist schema items es c d h l in (both.1, both.0)
linked_exist schema items es _ _ h (chain c d e l m) =
    ((linked_exist schema items es c d h l).0, (linked_exist schema items es d e h m).1)

-- the key of an equality that follows
derived_keys : (schema : Schema) (items : List Item) (es : List BExpr)
    → AllByRecursion (NamesExist schema items) es → (item : ℕ) (t : Term)
    → Derives schema items es item t → KeysExist schema items (term_keys t.kind)
derived_keys schema items es h item _ (by_key c d number e key is l at s names) =
    served_keys schema items d.item d.site (own_column schema items c).collation (Equals key) e
    (all_at (NamesExist schema items) es number e h at) s
derived_keys schema items es h item _ (by_column c d is other l) =
    ((linked_exist schema items es c d h l).1, tt)

-- the keys of a LIKE's bounds are texts
below_keys : (schema : Schema) (items : List Item) (site : Site) (high : Option (List ℕ))
    → TermsHave (KeyExists schema items) (below_term site high)
below_keys schema items site None = tt
below_keys schema items site (Some high) = ((tt, tt), tt)

range_keys : (schema : Schema) (items : List Item) (site : Site) (range : Range) (b : Bool)
    → TermsHave (KeyExists schema items) (cond b (range_terms site range) [])
range_keys schema items site range true = ((tt, tt), below_keys schema items site range.high)
range_keys schema items site range false = tt

column_range_keys : (schema : Schema) (items : List Item) (item : ℕ) (c : Option ColumnRef)
    (range : Option Range)
    → TermsHave (KeyExists schema items) (column_range schema items item c range)
column_range_keys schema items item None range = tt
column_range_keys schema items item (Some c) None = tt
column_range_keys schema items item (Some c) (Some range) =
    range_keys schema items c.site range
    ((c.item == item) && orders_as_like (own_column schema items c))

like_keys : (schema : Schema) (items : List Item) (item : ℕ) (e : BExpr)
    → TermsHave (KeyExists schema items) (like_terms schema items item e)
like_keys schema items item (Like false e pattern) =
    column_range_keys schema items item (bare_column e) (literal_bounds pattern)
like_keys schema items item e = tt

like_term_keys : (schema : Schema) (items : List Item) (item : ℕ) (e : BExpr) (at : ℕ) (t : Term)
    → slice_get (like_terms schema items item e) at ≡ Some t
    → KeysExist schema items (term_keys t.kind)
like_term_keys schema items item e at t is =
    all_at (λ u. KeysExist schema items (term_keys u.kind)) (like_terms schema items item e) at t
    (like_keys schema items item e) is

-- the members of an AND
mutual
  flat_exist : (schema : Schema) (items : List Item) (e : BExpr) → NamesExist schema items e
      → AllByRecursion (NamesExist schema items) (flat e)
  flat_exist schema items (All es) h = all_flat_exist schema items es h
  flat_exist schema items (Lit v) h = (h, tt)
  flat_exist schema items (Param n) h = (h, tt)
  flat_exist schema items (Column i n) h = (h, tt)
  flat_exist schema items (Rowid i) h = (h, tt)
  flat_exist schema items (Plus e) h = (h, tt)
  flat_exist schema items (Collate e collation) h = (h, tt)
  flat_exist schema items (Cmp op l r lc rc collation) h = (h, tt)
  flat_exist schema items (OneOf n l es ec collation) h = (h, tt)
  flat_exist schema items (Like n e pattern) h = (h, tt)
  flat_exist schema items (IsNull n e) h = (h, tt)
  flat_exist schema items (Not e) h = (h, tt)
  flat_exist schema items (Any es) h = (h, tt)

  all_flat_exist : (schema : Schema) (items : List Item) (es : BExprs)
      → AllNamesExist schema items es → AllByRecursion (NamesExist schema items) (flat_all es)
  all_flat_exist schema items Nil h = tt
  all_flat_exist schema items (More e es) h =
      all_append (NamesExist schema items) (flat e) (flat_all es) (flat_exist schema items e h.0)
      (all_flat_exist schema items es h.1)

abbrev ConjunctsExist : Schema → Bound → Type 0
ConjunctsExist schema bound =
    AllByRecursion (λ c. NamesExist schema bound.items c.expr) bound.conjuncts

term_keys_exist : (schema : Schema) (bound : Bound) (item : ℕ) → ConjunctsExist schema bound
    → (t : Term) → IsTerm schema bound item t → KeysExist schema bound.items (term_keys t.kind)
term_keys_exist schema bound item h t (inl d) =
    served_keys schema bound.items item t.column t.collation t.kind d.conjunct.expr
    (all_at (λ c. NamesExist schema bound.items c.expr) bound.conjuncts d.number d.conjunct h d.is)
    d.serves
term_keys_exist schema bound item h t (inr (none, inl d)) =
    derived_keys schema bound.items (exprs_of (filter (may_derive bound item) bound.conjuncts))
    (all_mapped (NamesExist schema bound.items) (λ c. c.expr)
    (filter (may_derive bound item) bound.conjuncts)
    (all_filter (λ c. NamesExist schema bound.items c.expr) (may_derive bound item)
    bound.conjuncts h)) item t d
term_keys_exist schema bound item h t (inr (none, inr l)) =
    like_term_keys schema bound.items item l.conjunct.expr l.at t l.listed

branch_keys_exist : (schema : Schema) (bound : Bound) (c : Conjunct) (item : ℕ) (es : List BExpr)
    → AllByRecursion (NamesExist schema bound.items) es → (t : Term)
    → IsBranchTerm schema bound c item es t → KeysExist schema bound.items (term_keys t.kind)
branch_keys_exist schema bound c item es h t (inl (number, e, at, serves)) =
    served_keys schema bound.items item t.column t.collation t.kind e
    (all_at (NamesExist schema bound.items) es number e h at) serves
branch_keys_exist schema bound c item es h t (inr (inl (may, d))) =
    derived_keys schema bound.items es h item t d
branch_keys_exist schema bound c item es h t (inr (inr (number, at, e, is, listed))) =
    like_term_keys schema bound.items item e at t listed

branches_exist : (schema : Schema) (bound : Bound) (c : Conjunct) (item : ℕ) (es : BExprs)
    (tss : List (List Term))
    → AllNamesExist schema bound.items es → AreBranchTerms schema bound c item es tss
    → AllByRecursion (TermsHave (KeyExists schema bound.items)) tss
branches_exist schema bound c item es [] h k = tt
branches_exist schema bound c item Nil (ts ∷ tss) h k = absurd k
branches_exist schema bound c item (More e es) (ts ∷ tss) h k = (
  all_map (IsBranchTerm schema bound c item (flat e))
      (λ t. KeysExist schema bound.items (term_keys t.kind)) ts
      (branch_keys_exist schema bound c item (flat e) (flat_exist schema bound.items e h.0)) k.0,
  branches_exist schema bound c item es tss h.1 k.1,
)

pub used_keys_exist : (schema : Schema) (bound : Bound) (needs : List (List ℕ)) (item : ℕ)
    (used : Used)
    → Fits schema bound needs → UsedComes schema bound item used
    → UsedHave (KeyExists schema bound.items) used
used_keys_exist schema bound needs item used fits u = by_kind used u
  where
    there : ConjunctsExist schema bound
    there =
        all_map (λ c. IsSound schema bound.items c.expr)
        (λ c. NamesExist schema bound.items c.expr) bound.conjuncts (λ c sound. sound.names)
        fits.conjuncts

    by_kind : (used : Used) → UsedComes schema bound item used
        → UsedHave (KeyExists schema bound.items) used
    by_kind (AllOf ts) u =
        all_map (IsTerm schema bound item) (λ t. KeysExist schema bound.items (term_keys t.kind))
        ts (term_keys_exist schema bound item there) u
    by_kind (AnyOf tss) u =
        branches_exist schema bound u.conjunct item u.branches tss
        (subst (NamesExist schema bound.items) u.any
        (all_at (λ c. NamesExist schema bound.items c.expr) bound.conjuncts u.number u.conjunct
        there u.is)) u.terms
