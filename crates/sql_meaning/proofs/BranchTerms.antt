-- The terms of the branches of an OR, and unions of seeks by them.
use Rattle.std.specs.List.{AllByRecursion}
use Rattle.std.proofs.Common.{◌≡◌, true, refl, ℕ, List, Bool, false, [], ◌∷◌, Option, Some}
use Rattle.std.proofs.Common.{slice_get, None, inl, inr, map, ◌++◌}
use Rattle.list_laws.proofs.Lists.{all_flat_map, all_map, all_append, all_from_at, all_filter}
use Rattle.sql_meaning.specs.Values.{Collation}
use Rattle.sql_meaning.specs.TermLists.{derived_terms, is_equal, is_within, is_low, is_high}
use Rattle.sql_meaning.specs.TermLists.{all_sites, branch_own, branch_likes, derived_if}
use Rattle.sql_meaning.specs.TermLists.{branch_column, of_kind, has_term}
use Rattle.sql_meaning.specs.LikeTerms.{like_terms}
use Rattle.sql_meaning.specs.TermLists.{branch_terms, OffersBranch, OffersBranches}
use Rattle.sql_meaning.specs.Expressions.{BExpr, Any, flat, BExprs, Nil, More}
use Rattle.sql_meaning.specs.Schemas.{Schema}
use Rattle.sql_meaning.specs.Rows.{Site}
use Rattle.sql_meaning.specs.Terms.{Term, TermKind, part_of}
use Rattle.sql_meaning.specs.Choices.{part_or, Seek, paths_of, used_of}
use Rattle.sql_meaning.specs.Statements.{Bound, has_number, FitsStatement, item_alias, Conjunct}
use Rattle.sql_meaning.specs.Statements.{table_of}
use Rattle.sql_meaning.specs.Fitting.{IsSeekOf}
use Rattle.sql_meaning.proofs.Fitting.{seek_fits, rowid_fits}
use Rattle.sql_meaning.specs.Paths.{Union}
use Rattle.sql_meaning.specs.Serving.{Served, serving, numbered_term}
use Rattle.sql_meaning.specs.UsedTerms.{IsBranchTerm, AnyOf}
use Rattle.sql_meaning.specs.Conjuncts.{may_derive, may_serve}
use Rattle.sql_meaning.specs.Offers.{IsOffer}
use Rattle.sql_meaning.proofs.Serving.{serving_is}
use Rattle.sql_meaning.proofs.Choices.{AreColumnTerms}
use Rattle.sql_meaning.proofs.OfferedPaths.{seek_plain, rowid_plain, IsPlainOffer, BranchOffers}
use Rattle.sql_meaning.proofs.OfferedPaths.{union_offer}
use Rattle.sql_meaning.proofs.ListedTerms.{derived_are, kinds, equal_part, within_part, low_edge}
use Rattle.sql_meaning.proofs.ListedTerms.{high_edge}

branch_one : (schema : Schema) (bound : Bound) (c : Conjunct) (item number : ℕ) (es : List BExpr)
    (k : ℕ) (e : BExpr)
    → slice_get es k ≡ Some e → (own : Site → Collation) (o : Option Served)
    → serving own item e ≡ o
    → AllByRecursion (IsBranchTerm schema bound c item es) (numbered_term number o)
branch_one schema bound c item number es k e at own None f = tt
branch_one schema bound c item number es k e at own (Some s) f =
    (inl (k, e, at, serving_is own item e s f), tt)

branch_own_are : (schema : Schema) (bound : Bound) (c : Conjunct) (item number : ℕ)
    (es : List BExpr)
    → AllByRecursion (IsBranchTerm schema bound c item es) (branch_own schema bound item number es)
branch_own_are schema bound c item number es =
    all_flat_map _ _ es
    (all_from_at _ es (λ k e at. branch_one schema bound c item number es k e at _ _ refl))

-- a term of a branch, as the lists of a column want it
abbrev pub IsListed : Schema → Bound → Conjunct → ℕ → List BExpr → Site → Term → Type 0
IsListed schema bound c item es site t =
    (t.column ≡ site) × (part_of t.kind ≡ Some (part_or t.kind))
    × IsBranchTerm schema bound c item es t

derived_case : (schema : Schema) (bound : Bound) (c : Conjunct) (item : ℕ) (es : List BExpr)
    (site : Site) (b : Bool)
    → may_derive bound item c ≡ b
    → AllByRecursion (IsListed schema bound c item es site)
    (derived_if b (derived_terms schema bound.items es item (record { item = item; site = site })))
derived_case schema bound c item es site true e =
    all_map _ _ _ (λ t d. (d.0, d.1, inr (inl (e, d.3))))
    (derived_are schema bound.items es item (record { item = item; site = site }) refl)
derived_case schema bound c item es site false e = tt

branch_likes_are : (schema : Schema) (bound : Bound) (c : Conjunct) (item : ℕ) (es : List BExpr)
    → AllByRecursion (IsBranchTerm schema bound c item es) (branch_likes schema bound item es)
branch_likes_are schema bound c item es =
    all_flat_map _ (like_terms schema bound.items item) es
    (all_from_at _ es
    (λ number e is. all_from_at _ (like_terms schema bound.items item e)
    (λ at t listed. inr (inr (number, at, e, is, listed)))))

branch_column_are : (schema : Schema) (bound : Bound) (c : Conjunct) (item number : ℕ)
    (es : List BExpr) (site : Site)
    → AreColumnTerms (IsBranchTerm schema bound c item es)
    (branch_column schema bound c item number es site)
branch_column_are schema bound c item number es site = record {
  equals =
      all_append _ _ _
      (kinds (IsBranchTerm schema bound c item es) _ is_equal site
      (λ t d at k. (at, equal_part t.kind k, d)) (branch_own schema bound item number es)
      (branch_own_are schema bound c item number es))
      (all_append _ _ _ (derived_case schema bound c item es site (may_derive bound item c) refl)
      (kinds (IsBranchTerm schema bound c item es) _ is_within site
      (λ t d at k. (at, within_part t.kind k, d)) (branch_own schema bound item number es)
      (branch_own_are schema bound c item number es)));
  lows = bounds is_low (λ t d at k. (at, low_edge t.kind k, d));
  highs = bounds is_high (λ t d at k. (at, high_edge t.kind k, d));
}
  where
    bounds : {Q : Term → Type 0} (test : TermKind → Bool)
        → ((t : Term) → IsBranchTerm schema bound c item es t → t.column ≡ site
        → test t.kind ≡ true → Q t)
        → AllByRecursion Q
        (of_kind test site (branch_own schema bound item number es)
        ++ of_kind test site (branch_likes schema bound item es))
    bounds test f =
        all_append _ _ _
        (kinds (IsBranchTerm schema bound c item es) _ test site f
        (branch_own schema bound item number es) (branch_own_are schema bound c item number es))
        (kinds (IsBranchTerm schema bound c item es) _ test site f
        (branch_likes schema bound item es) (branch_likes_are schema bound c item es))

branch_sites : (schema : Schema) (bound : Bound) (c : Conjunct) (item number : ℕ) (es : List BExpr)
    (sites : List Site)
    → AllByRecursion (AreColumnTerms (IsBranchTerm schema bound c item es))
    (map (branch_column schema bound c item number es) sites)
branch_sites schema bound c item number es [] = tt
branch_sites schema bound c item number es (site ∷ sites) = (
  branch_column_are schema bound c item number es site,
  branch_sites schema bound c item number es sites,
)

-- the lists of an OR branch are terms of the branch
pub branch_terms_are : (schema : Schema) (bound : Bound) (c : Conjunct) (item number : ℕ)
    (e : BExpr)
    → AllByRecursion (AreColumnTerms (IsBranchTerm schema bound c item (flat e)))
    (branch_terms schema bound c item number e)
branch_terms_are schema bound c item number e =
    all_filter (AreColumnTerms (IsBranchTerm schema bound c item (flat e))) has_term
    (map (branch_column schema bound c item number (flat e)) (all_sites schema bound item))
    (branch_sites schema bound c item number (flat e) (all_sites schema bound item))

pick_plain : (schema : Schema) (bound : Bound) (c : Conjunct) (placed : List ℕ) (item number : ℕ)
    (e : BExpr) (o : Seek)
    → OffersBranch schema bound c placed item number e o
    → IsPlainOffer (IsBranchTerm schema bound c item (flat e)) schema
    (item_alias schema bound item) placed o
pick_plain schema bound c placed item number e o (inl h) =
    rowid_plain _ schema (item_alias schema bound item) placed
    (branch_terms schema bound c item number e) o (branch_terms_are schema bound c item number e) h
pick_plain schema bound c placed item number e o (inr (index, i, h)) =
    seek_plain _ schema (item_alias schema bound item) placed
    (branch_terms schema bound c item number e) index o
    (branch_terms_are schema bound c item number e) h

pick_fits : (schema : Schema) (bound : Bound) (c : Conjunct) (placed : List ℕ) (item number : ℕ)
    (e : BExpr) (o : Seek)
    → OffersBranch schema bound c placed item number e o
    → IsSeekOf schema (table_of (slice_get bound.items item)) o.path
pick_fits schema bound c placed item number e o (inl h) =
    rowid_fits schema (table_of (slice_get bound.items item)) placed
    (branch_terms schema bound c item number e) o h
pick_fits schema bound c placed item number e o (inr (index, i, h)) =
    seek_fits schema (table_of (slice_get bound.items item)) placed (item_alias schema bound item)
    (branch_terms schema bound c item number e) index o i h

picks_offers : (schema : Schema) (bound : Bound) (c : Conjunct) (placed : List ℕ) (item number : ℕ)
    (es : BExprs) (os : List Seek)
    → OffersBranches schema bound c placed item number es os
    → BranchOffers schema bound c placed item es os
picks_offers schema bound c placed item number Nil [] h = tt
picks_offers schema bound c placed item number Nil (o ∷ os) h = absurd h
picks_offers schema bound c placed item number (More e es) [] h = absurd h
picks_offers schema bound c placed item number (More e es) (o ∷ os) h = (
  pick_fits schema bound c placed item number e o h.0,
  pick_plain schema bound c placed item number e o h.0,
  picks_offers schema bound c placed item number es os h.1,
)

-- so each union of chosen seeks is an offer
pub union_of_terms : (schema : Schema) (bound : Bound) (placed : List ℕ) (item : ℕ) (turned : Bool)
    (number : ℕ) (c : Conjunct) (es : BExprs) (os : List Seek)
    → FitsStatement schema bound → has_number item placed ≡ false
    → slice_get bound.conjuncts number ≡ Some c → may_serve bound item c ≡ true → c.expr ≡ Any es
    → OffersBranches schema bound c placed item number es os
    → IsOffer schema bound placed
    (record { item = item; path = Union (paths_of os); reverse = turned; consumed = [] })
    (AnyOf (used_of os))
union_of_terms schema bound placed item turned number c es os fits un is allowed any h =
    union_offer schema bound placed item turned number c es os fits un is allowed any
    (picks_offers schema bound c placed item number es os h)
