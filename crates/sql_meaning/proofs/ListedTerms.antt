-- The listed terms of a column are terms of its item.
use Rattle.std.specs.List.{AllByRecursion, filter}
use Rattle.std.proofs.Common.{◌≡◌, true, ◌==◌, refl, ℕ, List, Bool, false, cond, ◌&&◌, [], ◌∷◌}
use Rattle.std.proofs.Common.{Option, Some, slice_get, None, inl, inr, ap, ◌∙◌, add-zero, map, suc}
use Rattle.std.proofs.Common.{◌++◌}
use Rattle.std.proofs.lemmas.Bool.{eq-eqb}
use Rattle.list_laws.proofs.Lists.{all_flat_map, all_map, all_append, all_from_at, all_filter}
use Rattle.list_laws.proofs.Bools.{and_left, and_right}
use Rattle.sql_meaning.specs.Values.{Collation}
use Rattle.sql_meaning.specs.Links.{Linked, Derives, by_key, by_column}
use Rattle.sql_meaning.specs.TermLists.{linked_to, derived_term, key_term, derived_terms, of_kind}
use Rattle.sql_meaning.specs.TermLists.{is_equal, is_within, is_low, is_high, own_terms}
use Rattle.sql_meaning.specs.TermLists.{own_likes, column_terms, all_sites, item_terms, has_term}
use Rattle.sql_meaning.specs.Expressions.{ColumnRef, BExpr, Cmp}
use Rattle.sql_meaning.specs.Expressions.{names, ref_expr}
use Rattle.sql_meaning.specs.Orders.{same_site}
use Rattle.sql_meaning.specs.Schemas.{Schema}
use Rattle.sql_meaning.specs.Items.{Item, own_column}
use Rattle.sql_meaning.specs.Rows.{Site}
use Rattle.sql_meaning.specs.Terms.{Term, part_of, TermKind, Serves, ComparisonServes, Equals}
use Rattle.sql_meaning.specs.Terms.{Within, IsNothing, Low, High}
use Rattle.sql_meaning.specs.Choices.{part_or, edge_or, Seek, seek_offer, consumed_of, rowid_offer}
use Rattle.sql_meaning.specs.Statements.{is_empty, Bound, exprs_of, has_number, FitsStatement}
use Rattle.sql_meaning.specs.Statements.{item_alias, Conjunct, table_of}
use Rattle.sql_meaning.specs.Fitting.{IsIndexOf}
use Rattle.sql_meaning.proofs.Fitting.{seek_fits, rowid_fits}
use Rattle.sql_meaning.specs.Paths.{KeyExpr, Edge}
use Rattle.sql_meaning.specs.Serving.{key_under, comparison_served}
use Rattle.sql_meaning.specs.UsedTerms.{IsDirect, IsLikeTerm, IsTerm, AllOf}
use Rattle.sql_meaning.specs.LikeTerms.{like_terms}
use Rattle.sql_meaning.specs.Conjuncts.{may_derive, may_serve}
use Rattle.sql_meaning.specs.Offers.{IsOffer}
use Rattle.sql_meaning.specs.OrderState.{columns_at}
use Rattle.sql_meaning.proofs.OneBlock.{empty_is}
use Rattle.sql_meaning.proofs.TiedPositions.{site_is}
use Rattle.sql_meaning.proofs.Serving.{key_is, equality_serves, direct_are}
use Rattle.sql_meaning.proofs.Choices.{AreColumnTerms}
use Rattle.sql_meaning.proofs.OfferedPaths.{seek_plain, plain_offer, rowid_plain}
use Rattle.sql_meaning.proofs.TermLists.{linked_are}
use Rattle.sql_meaning.proofs.Links.{all_at}
use Rattle.sql_meaning.proofs.LikeTerms.{like_unnumbered}

-- a derived term, as the lists of a column want it
abbrev pub IsDerived : Schema → List Item → List BExpr → ℕ → ColumnRef → Term → Type 0
IsDerived schema items es item c t =
    (t.column ≡ c.site) × (part_of t.kind ≡ Some (part_or t.kind)) × (t.conjunct ≡ None)
    × Derives schema items es item t

comparison_is_serves : (item : ℕ) (site : Site) (collation : Collation) (kind : TermKind)
    (e : BExpr)
    → ComparisonServes item site collation kind e → Serves item site collation kind e
comparison_is_serves item site collation kind (Cmp op left right lc rc c) h = h
comparison_is_serves item site collation kind e h = absurd h

key_case : (schema : Schema) (items : List Item) (es : List BExpr) (item : ℕ) (c d : ColumnRef)
    (number : ℕ) (e : BExpr) (key : KeyExpr)
    → c.item ≡ item → Linked schema items es c d → slice_get es number ≡ Some e
    → Serves d.item d.site (own_column schema items c).collation (Equals key) e → (b : Bool)
    → is_empty (names key.expr) ≡ b
    → AllByRecursion (IsDerived schema items es item c)
    (cond b (derived_term schema items c key ∷ []) [])
key_case schema items es item c d number e key is l at s true f =
    ((refl, refl, refl, by_key c d number e key is l at s (empty_is (names key.expr) f)), tt)
key_case schema items es item c d number e key is l at s false f = tt

key_terms : (schema : Schema) (items : List Item) (es : List BExpr) (item : ℕ) (c d : ColumnRef)
    (number : ℕ) (e : BExpr)
    → c.item ≡ item → Linked schema items es c d → slice_get es number ≡ Some e
    → (o : Option KeyExpr)
    → key_under d.site (own_column schema items c).collation (comparison_served d.item e) ≡ o
    → AllByRecursion (IsDerived schema items es item c) (key_term schema items c o)
key_terms schema items es item c d number e is l at None f = tt
key_terms schema items es item c d number e is l at (Some key) f =
    key_case schema items es item c d number e key is l at
    (comparison_is_serves d.item d.site _ (Equals key) e
    (equality_serves d.item d.site (own_column schema items c).collation e key
    (key_is d.site (own_column schema items c).collation (comparison_served d.item e) key f)))
    (is_empty (names key.expr)) refl

column_case : (schema : Schema) (items : List Item) (es : List BExpr) (item : ℕ) (c d : ColumnRef)
    → c.item ≡ item → Linked schema items es c d → (b : Bool) → (d.item == item) ≡ b
    → AllByRecursion (IsDerived schema items es item c)
    (cond b [] (derived_term schema items c (record { expr = ref_expr d; conversion = None }) ∷ []))
column_case schema items es item c d is l true e = tt
column_case schema items es item c d is l false e = (
  (
    refl,
    refl,
    refl,
    by_column c d is
        (λ same. let yes : (d.item == item) ≡ true = eq-eqb d.item item same in absurd (cc)) l,
  ),
  tt,
)

pub derived_are : (schema : Schema) (items : List Item) (es : List BExpr) (item : ℕ) (c : ColumnRef)
    → c.item ≡ item
    → AllByRecursion (IsDerived schema items es item c) (derived_terms schema items es item c)
derived_are schema items es item c is =
    all_append _ _ _
    (all_flat_map _ _ es
    (all_from_at _ es
    (λ k e at. all_flat_map _ _ (linked_to schema items es c)
    (all_map _ _ _ (λ d l. key_terms schema items es item c d k e is l at _ refl)
    (linked_are schema items es c)))))
    (all_flat_map _ _ (linked_to schema items es c)
    (all_map _ _ _ (λ d l. column_case schema items es item c d is l (d.item == item) refl)
    (linked_are schema items es c)))

kind_case : (P Q : Term → Type 0) (test : TermKind → Bool) (site : Site) (t : Term) (ts : List Term)
    → P t → ((t : Term) → P t → t.column ≡ site → test t.kind ≡ true → Q t) → AllByRecursion Q ts
    → (b : Bool) → (same_site t.column site && test t.kind) ≡ b
    → AllByRecursion Q (cond b (t ∷ ts) ts)
kind_case P Q test site t ts p f h true e = (
  f t p (site_is t.column site (and_left _ (test t.kind) e))
      (and_right (same_site t.column site) _ e),
  h,
)
kind_case P Q test site t ts p f h false e = h

pub kinds : (P Q : Term → Type 0) (test : TermKind → Bool) (site : Site)
    → ((t : Term) → P t → t.column ≡ site → test t.kind ≡ true → Q t) → (ts : List Term)
    → AllByRecursion P ts → AllByRecursion Q (of_kind test site ts)
kinds P Q test site f [] h = tt
kinds P Q test site f (t ∷ ts) h =
    kind_case P Q test site t _ h.0 f (kinds P Q test site f ts h.1)
    (same_site t.column site && test t.kind) refl

pub equal_part : (kind : TermKind) → is_equal kind ≡ true → part_of kind ≡ Some (part_or kind)
equal_part (Equals key) h = refl
equal_part IsNothing h = refl
equal_part kind h = absurd (cc)

pub within_part : (kind : TermKind) → is_within kind ≡ true → part_of kind ≡ Some (part_or kind)
within_part (Within keys) h = refl
within_part kind h = absurd (cc)

pub low_edge : (kind : TermKind) → is_low kind ≡ true → (e : Edge) × (edge_or kind ≡ Some e)
    × (kind ≡ Low e.key e.inclusive)
low_edge (Low key i) h = (record { key = key; inclusive = i }, refl, refl)
low_edge kind h = absurd (cc)

pub high_edge : (kind : TermKind) → is_high kind ≡ true → (e : Edge) × (edge_or kind ≡ Some e)
    × (kind ≡ High e.key e.inclusive)
high_edge (High key i) h = (record { key = key; inclusive = i }, refl, refl)
high_edge kind h = absurd (cc)

own_are : (schema : Schema) (bound : Bound) (item : ℕ)
    → AllByRecursion (IsDirect bound item) (own_terms schema bound item)
own_are schema bound item =
    direct_are _ bound item 0 bound.conjuncts
    (λ k c e. ap (slice_get bound.conjuncts) (add-zero k) ∙ e)

allowed_case : (P : Conjunct → Type 0) (b : Bool) (c : Conjunct) (cs : List Conjunct)
    → (b ≡ true → P c) → AllByRecursion P cs → AllByRecursion P (cond b (c ∷ cs) cs)
allowed_case P true c cs h k = (h refl, k)
allowed_case P false c cs h k = k

-- what holds of each allowed conjunct at its number
allowed_are : (P : Conjunct → Type 0) (allowed : Conjunct → Bool) (cs : List Conjunct)
    → ((number : ℕ) (c : Conjunct) → slice_get cs number ≡ Some c → allowed c ≡ true → P c)
    → AllByRecursion P (filter allowed cs)
allowed_are P allowed [] f = tt
allowed_are P allowed (c ∷ cs) f =
    allowed_case P (allowed c) c (filter allowed cs) (f 0 c refl)
    (allowed_are P allowed cs (λ number d is may. f (suc number) d is may))

likes_are : (schema : Schema) (bound : Bound) (item : ℕ)
    → AllByRecursion (λ t. (t.conjunct ≡ None) × IsLikeTerm schema bound item t)
    (own_likes schema bound item)
likes_are schema bound item =
    all_flat_map _ (λ c. like_terms schema bound.items item c.expr)
    (filter (may_serve bound item) bound.conjuncts)
    (allowed_are _ (may_serve bound item) bound.conjuncts
    (λ number c is may. all_from_at _ (like_terms schema bound.items item c.expr)
    (λ at t listed. (
      all_at (λ u. u.conjunct ≡ None) (like_terms schema bound.items item c.expr) at t
          (like_unnumbered schema bound.items item c.expr) listed,
      record {
        number = number;
        conjunct = c;
        is = is;
        allowed = may;
        at = at;
        listed = listed;
      },
    ))))

-- the listed terms of a column are terms of the item
pub column_terms_are : (schema : Schema) (bound : Bound) (item : ℕ) (site : Site)
    → AreColumnTerms (IsTerm schema bound item) (column_terms schema bound item site)
column_terms_are schema bound item site = record {
  equals =
      all_append _ _ _
      (kinds (IsDirect bound item) _ is_equal site (λ t d at k. (at, equal_part t.kind k, inl d))
      (own_terms schema bound item) (own_are schema bound item))
      (all_append _ _ _
      (all_map _ _ _ (λ t d. (d.0, d.1, inr (d.2, inl d.3)))
      (derived_are schema bound.items
      (exprs_of (filter (may_derive bound item) bound.conjuncts)) item
      (record { item = item; site = site }) refl))
      (kinds (IsDirect bound item) _ is_within site (λ t d at k. (at, within_part t.kind k, inl d))
      (own_terms schema bound item) (own_are schema bound item)));
  lows = bounds is_low (λ t k. low_edge t.kind k);
  highs = bounds is_high (λ t k. high_edge t.kind k);
}
  where
    bounds : {Q : Term → Type 0} (test : TermKind → Bool)
        → ((t : Term) → test t.kind ≡ true → Q t)
        → AllByRecursion (λ t. (t.column ≡ site) × Q t × IsTerm schema bound item t)
        (of_kind test site (own_terms schema bound item)
        ++ of_kind test site (own_likes schema bound item))
    bounds test f =
        all_append _ _ _
        (kinds (IsDirect bound item) _ test site (λ t d at k. (at, f t k, inl d))
        (own_terms schema bound item) (own_are schema bound item))
        (kinds _ _ test site (λ t d at k. (at, f t k, inr (d.0, inr d.1)))
        (own_likes schema bound item) (likes_are schema bound item))

all_sites_are : (schema : Schema) (bound : Bound) (item : ℕ) (sites : List Site)
    → AllByRecursion (AreColumnTerms (IsTerm schema bound item))
    (map (column_terms schema bound item) sites)
all_sites_are schema bound item [] = tt
all_sites_are schema bound item (site ∷ sites) =
    (column_terms_are schema bound item site, all_sites_are schema bound item sites)

pub item_terms_are : (schema : Schema) (bound : Bound) (item : ℕ)
    → AllByRecursion (AreColumnTerms (IsTerm schema bound item)) (item_terms schema bound item)
item_terms_are schema bound item =
    all_filter (AreColumnTerms (IsTerm schema bound item)) has_term
    (map (column_terms schema bound item) (all_sites schema bound item))
    (all_sites_are schema bound item (all_sites schema bound item))

-- so the seeks that are chosen of the lists are offers
pub seek_of_terms : (schema : Schema) (bound : Bound) (placed : List ℕ) (item index : ℕ)
    (turned : Bool) (o : Seek)
    → FitsStatement schema bound → has_number item placed ≡ false
    → IsIndexOf schema (table_of (slice_get bound.items item)) index
    → seek_offer placed (item_alias schema bound item) (item_terms schema bound item) index
    (columns_at (slice_get schema.indexes index)) ≡ Some o
    → IsOffer schema bound placed
    (record { item = item; path = o.path; reverse = turned; consumed = consumed_of o.used })
    (AllOf o.used)
seek_of_terms schema bound placed item index turned o fits un i h =
    plain_offer schema bound placed item o turned fits un
    (seek_fits schema (table_of (slice_get bound.items item)) placed (item_alias schema bound item)
    (item_terms schema bound item) index o i h)
    (seek_plain (IsTerm schema bound item) schema (item_alias schema bound item) placed
    (item_terms schema bound item) index o (item_terms_are schema bound item) h)

pub rowid_of_terms : (schema : Schema) (bound : Bound) (placed : List ℕ) (item : ℕ) (turned : Bool)
    (o : Seek)
    → FitsStatement schema bound → has_number item placed ≡ false
    → rowid_offer placed (item_terms schema bound item) ≡ Some o
    → IsOffer schema bound placed
    (record { item = item; path = o.path; reverse = turned; consumed = consumed_of o.used })
    (AllOf o.used)
rowid_of_terms schema bound placed item turned o fits un h =
    plain_offer schema bound placed item o turned fits un
    (rowid_fits schema (table_of (slice_get bound.items item)) placed
    (item_terms schema bound item) o h)
    (rowid_plain (IsTerm schema bound item) schema (item_alias schema bound item) placed
    (item_terms schema bound item) o (item_terms_are schema bound item) h)
