-- The columns that are listed as linked with a column are linked with it.
use Rattle.std.specs.List.{AllByRecursion, filter}
use Rattle.std.proofs.Common.{◌≡◌, true, ◌==◌, refl, ap₂, ◌≢◌, ℕ, not, List, Bool, false, cond}
use Rattle.std.proofs.Common.{◌&&◌, [], ◌∷◌, Option, Some, slice_get, None, suc, ◌⊎◌, inl, inr, sym}
use Rattle.std.proofs.Common.{subst, ◌||◌, zero, length, map, ◌++◌}
use Rattle.std.specs.Ordering.{eq_by_cmp}
use Rattle.std.proofs.lemmas.Bool.{eqb-true, eq-eqb}
use Rattle.list_laws.specs.Order.{sort_by}
use Rattle.list_laws.proofs.Lists.{all_from_at, all_flat_map, all_append, all_filter}
use Rattle.list_laws.proofs.FirstComings.{all_keep}
use Rattle.list_laws.proofs.Bools.{and_left, and_right, both_true}
use Rattle.sql_meaning.specs.Values.{Affinity}
use Rattle.sql_meaning.specs.Values.{Collation}
use Rattle.sql_meaning.specs.Links.{affinity_class, Linked, link, chain, back}
use Rattle.sql_meaning.specs.TermLists.{same_ref, Pair, pair_of, link_pair}
use Rattle.sql_meaning.specs.TermLists.{link_pairs, touches, other_end, visits, visited, ref_cmp}
use Rattle.sql_meaning.specs.TermLists.{linked_to}
use Rattle.sql_meaning.specs.Expressions.{ColumnRef, BExpr, IsEqual, Cmp, bare_column}
use Rattle.sql_meaning.specs.Orders.{same_site, same_collation}
use Rattle.sql_meaning.specs.Schemas.{Schema}
use Rattle.sql_meaning.specs.Items.{Item, own_column}
use Rattle.sql_meaning.specs.Rows.{Site, AtRowid, AtColumn}
use Rattle.sql_meaning.proofs.TiedPositions.{site_is, collation_is}
use Rattle.list_laws.proofs.SortedViews.{all_sort}

pub ref_is : (c d : ColumnRef) → same_ref c d ≡ true → c ≡ d
ref_is c d h =
    ap₂ (λ i s. record { item = i; site = s })
    (eqb-true c.item d.item (and_left _ (same_site c.site d.site) h))
    (site_is c.site d.site (and_right (c.item == d.item) _ h))

not_same : (m n : ℕ) → not (m == n) ≡ true → m ≢ n
not_same m n h e = absurd (let yes : (m == n) ≡ true = eq-eqb m n e in cc)

abbrev pub AreLinked : Schema → List Item → List BExpr → Pair → Type 0
AreLinked schema items es p = Linked schema items es p.first p.second

pair_case : (schema : Schema) (items : List Item) (es : List BExpr) (number : ℕ)
    (left right : BExpr) (lc rc : Option Affinity) (collation : Collation) (c d : ColumnRef)
    → slice_get es number ≡ Some (Cmp IsEqual left right lc rc collation)
    → bare_column left ≡ Some c → bare_column right ≡ Some d → (b : Bool)
    → (not (c.item == d.item)
    && (same_collation (own_column schema items c).collation collation
    && (same_collation (own_column schema items d).collation collation
    && (affinity_class (own_column schema items c).affinity == affinity_class
    (own_column schema items d).affinity)))) ≡ b
    → AllByRecursion (AreLinked schema items es) (cond b (record { first = c; second = d } ∷ []) [])
pair_case schema items es number left right lc rc collation c d at l r false e = tt
pair_case schema items es number left right lc rc collation c d at l r true e =
    let rest = and_right (not (c.item == d.item)) _ e in
    let more =
    and_right (same_collation (own_column schema items c).collation collation) _ rest in (
      link c d number (Cmp IsEqual left right lc rc collation) at (record {
        is_c = l;
        is_d = r;
        apart =
            not_same c.item d.item
            (and_left _
            (same_collation (own_column schema items c).collation collation
            && (same_collation (own_column schema items d).collation collation
            && (affinity_class (own_column schema items c).affinity == affinity_class
            (own_column schema items d).affinity))) e);
        own_c =
            collation_is _ collation
            (and_left _
            (same_collation (own_column schema items d).collation collation
            && (affinity_class (own_column schema items c).affinity == affinity_class
            (own_column schema items d).affinity)) rest);
        own_d =
            collation_is _ collation
            (and_left _
            (affinity_class (own_column schema items c).affinity == affinity_class
            (own_column schema items d).affinity) more);
        one_class =
            eqb-true _ _
            (and_right (same_collation (own_column schema items d).collation collation) _ more);
      }),
      tt,
    )

pair_is : (schema : Schema) (items : List Item) (es : List BExpr) (number : ℕ) (left right : BExpr)
    (lc rc : Option Affinity) (collation : Collation)
    → slice_get es number ≡ Some (Cmp IsEqual left right lc rc collation) → (o p : Option ColumnRef)
    → bare_column left ≡ o → bare_column right ≡ p
    → AllByRecursion (AreLinked schema items es) (pair_of schema items o p collation)
pair_is schema items es number left right lc rc collation at None p l r = tt
pair_is schema items es number left right lc rc collation at (Some c) None l r = tt
pair_is schema items es number left right lc rc collation at (Some c) (Some d) l r =
    pair_case schema items es number left right lc rc collation c d at l r _ refl

link_pair_is : (schema : Schema) (items : List Item) (es : List BExpr) (number : ℕ) (e : BExpr)
    → slice_get es number ≡ Some e
    → AllByRecursion (AreLinked schema items es) (link_pair schema items e)
link_pair_is schema items es number (Cmp IsEqual left right lc rc collation) at =
    pair_is schema items es number left right lc rc collation at (bare_column left)
    (bare_column right) refl refl
link_pair_is schema items es number e at = tt

pairs_are : (schema : Schema) (items : List Item) (es : List BExpr)
    → AllByRecursion (AreLinked schema items es) (link_pairs schema items es)
pairs_are schema items es =
    all_flat_map _ (link_pair schema items) es
    (all_from_at _ es (λ k e at. link_pair_is schema items es k e at))

-- what is reached is the column itself or linked with it
abbrev pub Reached : Schema → List Item → List BExpr → ColumnRef → ColumnRef → Type 0
Reached schema items es c d = (c ≡ d) ⊎ Linked schema items es c d

further : (schema : Schema) (items : List Item) (es : List BExpr) (c d e : ColumnRef)
    → Reached schema items es c d → Linked schema items es d e → Reached schema items es c e
further schema items es c d e (inl same) l =
    inr (subst (λ (z : ColumnRef). Linked schema items es z e) (sym same) l)
further schema items es c d e (inr k) l = inr (chain c d e k l)

-- what links join with a reached column is reached
end_case : (schema : Schema) (items : List Item) (es : List BExpr) (c d : ColumnRef) (p : Pair)
    (ps : List Pair)
    → Reached schema items es c d → Linked schema items es p.first p.second
    → AllByRecursion (Reached schema items es c) (map (other_end d) ps) → (a b : Bool)
    → same_ref d p.first ≡ a → same_ref d p.second ≡ b
    → AllByRecursion (Reached schema items es c) (map (other_end d) (cond (a || b) (p ∷ ps) ps))
end_case schema items es c d p ps r l h true b e f = (
  rw e
      (further schema items es c p.first p.second
      (subst (Reached schema items es c) (ref_is d p.first e) r) l),
  h,
)
end_case schema items es c d p ps r l h false true e f = (
  rw e
      (further schema items es c p.second p.first
      (subst (Reached schema items es c) (ref_is d p.second f) r) (back p.first p.second l)),
  h,
)
end_case schema items es c d p ps r l h false false e f = h

ends_are : (schema : Schema) (items : List Item) (es : List BExpr) (c d : ColumnRef)
    (ps : List Pair)
    → Reached schema items es c d → AllByRecursion (AreLinked schema items es) ps
    → AllByRecursion (Reached schema items es c) (map (other_end d) (filter (touches d) ps))
ends_are schema items es c d [] r l = tt
ends_are schema items es c d (p ∷ ps) r l =
    end_case schema items es c d p (filter (touches d) ps) r l.0
    (ends_are schema items es c d ps r l.1) (same_ref d p.first) (same_ref d p.second) refl refl

visits_are : (schema : Schema) (items : List Item) (es : List BExpr) (c : ColumnRef) (n : ℕ)
    (next : List ColumnRef) (ps : List Pair)
    → AllByRecursion (AreLinked schema items es) ps
    → AllByRecursion (Reached schema items es c) next
    → AllByRecursion (Reached schema items es c) (visits n next ps)
visits_are schema items es c zero next ps l h = tt
visits_are schema items es c (suc n) [] ps l h = tt
visits_are schema items es c (suc n) (d ∷ next) ps l h = (
  h.0,
  visits_are schema items es c n (map (other_end d) (filter (touches d) ps) ++ next)
      (filter (λ p. not (touches d p)) ps)
      (all_filter (AreLinked schema items es) (λ p. not (touches d p)) ps l)
      (all_append (Reached schema items es c) (map (other_end d) (filter (touches d) ps)) next
      (ends_are schema items es c d ps h.0 l) h.1),
)

pub itself : (c : ColumnRef) → same_ref c c ≡ true
itself c =
    both_true (c.item == c.item) (same_site c.site c.site) (eq-eqb c.item c.item refl)
    (site_itself c.site)
  where
    site_itself : (s : Site) → same_site s s ≡ true
    site_itself AtRowid = refl
    site_itself (AtColumn n) = eq-eqb n n refl

other_case : (schema : Schema) (items : List Item) (es : List BExpr) (c d : ColumnRef)
    (ds : List ColumnRef)
    → Reached schema items es c d → AllByRecursion (Linked schema items es c) ds → (b : Bool)
    → same_ref d c ≡ b → AllByRecursion (Linked schema items es c) (cond (not b) (d ∷ ds) ds)
other_case schema items es c d ds (inl same) h true e = h
other_case schema items es c d ds (inr l) h true e = h
other_case schema items es c d ds (inl same) h false e =
    absurd
    (let yes : same_ref d c ≡ true =
    subst (λ (z : ColumnRef). same_ref z c ≡ true) same (itself c) in cc)
other_case schema items es c d ds (inr l) h false e = (l, h)

others : (schema : Schema) (items : List Item) (es : List BExpr) (c : ColumnRef)
    (ds : List ColumnRef)
    → AllByRecursion (Reached schema items es c) ds
    → AllByRecursion (Linked schema items es c) (filter (λ d. not (same_ref d c)) ds)
others schema items es c [] h = tt
others schema items es c (d ∷ ds) h =
    other_case schema items es c d _ h.0 (others schema items es c ds h.1) (same_ref d c) refl

-- the columns that are listed are linked
pub linked_are : (schema : Schema) (items : List Item) (es : List BExpr) (c : ColumnRef)
    → AllByRecursion (Linked schema items es c) (linked_to schema items es c)
linked_are schema items es c =
    let ps = link_pairs schema items es in
    all_keep (eq_by_cmp ref_cmp) (Linked schema items es c)
    (sort_by ref_cmp (filter (λ d. not (same_ref d c)) (visited c ps))) []
    (all_sort (Linked schema items es c) ref_cmp (filter (λ d. not (same_ref d c)) (visited c ps))
    (others schema items es c (visited c ps)
    (visits_are schema items es c (suc (length ps)) (c ∷ []) ps (pairs_are schema items es)
    (inl refl, tt))))
