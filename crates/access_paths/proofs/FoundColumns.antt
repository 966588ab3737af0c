-- Where columns rise, halving finds a column.
use Rattle.std.proofs.Common.{◌≡◌, ◌<◌, ◌≤◌, ◌+◌, ℕ, zero, suc, Bool, true, false, cond, List, []}
use Rattle.std.proofs.Common.{◌∷◌, Some, map, refl, ap, sym, arith, nat_lt}
use Rattle.std.proofs.Common.{length, get_or, slice_get, Option, None, option_map, is_some, ◌∙◌}
use Rattle.std.specs.Prelude.{IfSome}
use Rattle.std.specs.Borrow.{Bor}
use Rattle.std.proofs.lemmas.Option.{slice_get-map, slice_get-get_or, slice_get_past}
use Rattle.std.specs.List.{AllByRecursion}
use Rattle.std.specs.List.Sorted.{IsNonDecreasingBy, IsPartitionedBy, IsPartitionPoint}
use Rattle.std.proofs.lemmas.Bool.{eqb-true, ltb-true, ltb-false}
use Rattle.std.proofs.lemmas.List.Sorted.{IsPartitionedBy-ltb}
use Rattle.sql_meaning.specs.Rows.{Site, AtRowid, AtColumn}
use Rattle.sql_meaning.specs.Orders.{same_site}
use Rattle.sql_meaning.specs.Choices as plain
use Rattle.sql_meaning.specs.Choices.{terms_at}
use Rattle.sql_meaning.specs.TermLists.{site_number}
use Rattle.sql_bound.specs.Columns.{site_of}
use Rattle.where_terms.specs.Views.{column_terms_of}
use Rattle.where_terms.specs.declared.term.ColumnTerms.{ColumnTerms}
use Rattle.plan_choice.specs.Offers.{without_bounds}
use Rattle.access_paths.specs.Supplies.{RisesBySite, found_for}

abbrev pub place_of : ColumnTerms → ℕ
place_of c = site_number (site_of c.column)

abbrev pub stands_before : ℕ → ColumnTerms → Bool
stands_before number c = nat_lt (place_of c) number

same_place : (a b : Site) → same_site a b ≡ true → site_number a ≡ site_number b
same_place AtRowid AtRowid h = refl
same_place AtRowid (AtColumn d) h = absurd (cc)
same_place (AtColumn c) AtRowid h = absurd (cc)
same_place (AtColumn c) (AtColumn d) h = ap (λ n. n + 1) (eqb-true c d h)

other_case : (a b : Site) (same : Bool) → same_site a b ≡ same
    → (site_number a ≡ site_number b → ⊥) → same_site a b ≡ false
other_case a b true e h = absurd (h (same_place a b e))
other_case a b false e h = e

other : (a b : Site) → (site_number a ≡ site_number b → ⊥) → same_site a b ≡ false
other a b h = other_case a b (same_site a b) refl h

absent : (site : Site) (cs : List plain.ColumnTerms)
    → AllByRecursion (λ d. site_number site < site_number d.column) cs
    → terms_at site cs ≡ terms_at site []
absent site [] h = refl
absent site (c ∷ cs) h =
    rw (other c.column site (λ e. omega (arith, h.0, e))) (absent site cs h.1)

above : (number : ℕ) (c : ColumnTerms) (cs : List ColumnTerms) → number ≤ place_of c
    → AllByRecursion (λ d. place_of c < site_number d.column) (map column_terms_of cs)
    → AllByRecursion (λ d. number < site_number d.column) (map column_terms_of cs)
above number c [] low h = tt
above number c (d ∷ ds) low h =
    let here : place_of c < place_of d = h.0 in (omega arith, above number c ds low h.1)

at_or : (P : ℕ → Type 0) (cs : List ColumnTerms) (i : ℕ) (d : ColumnTerms)
    → AllByRecursion (λ c. P (site_number c.column)) (map column_terms_of cs) → i < length cs
    → P (place_of (get_or cs i d))
at_or P [] i d h below = absurd (omega (arith, below))
at_or P (c ∷ cs) zero d h below = h.0
at_or P (c ∷ cs) (suc i) d h below = at_or P cs i d h.1 (omega (arith, below))

rising : (cs : List ColumnTerms) → RisesBySite (map column_terms_of cs)
    → IsNonDecreasingBy place_of cs
rising [] h i j d le below = absurd (omega (arith, below))
rising (c ∷ cs) h zero zero d le below = omega arith
rising (c ∷ cs) h zero (suc j) d le below =
    let up : place_of c < place_of (get_or cs j d) =
    at_or (λ n. place_of c < n) cs j d h.0 (omega (arith, below)) in omega (arith, up)
rising (c ∷ cs) h (suc i) zero d le below = absurd (omega (arith, le))
rising (c ∷ cs) h (suc i) (suc j) d le below =
    rising cs h.1 i j d (omega (arith, le)) (omega (arith, below))

pub partitioned : (cs : List ColumnTerms) (number : ℕ) → RisesBySite (map column_terms_of cs)
    → IsPartitionedBy (stands_before number) cs
partitioned cs number h = IsPartitionedBy-ltb place_of cs number (rising cs h)

here_case : (site : Site) (c : ColumnTerms) (cs : List ColumnTerms) (same : Bool)
    → same_site (site_of c.column) site ≡ same
    → (same ≡ false → terms_at site (map column_terms_of cs) ≡ terms_at site [])
    → found_for site (Some (column_terms_of c)) ≡ terms_at site (map column_terms_of (c ∷ cs))
here_case site c cs true e h = rw e refl
here_case site c cs false e h = rw e (sym (h refl))

pub found_is : (cs : List ColumnTerms) (site : Site) (i : ℕ) → RisesBySite (map column_terms_of cs)
    → IsPartitionPoint (λ c. stands_before (site_number site) c ≡ true)
    (λ c. stands_before (site_number site) c ≡ false) cs i
    → found_for site (slice_get (map column_terms_of cs) i) ≡ terms_at site (map column_terms_of cs)
found_is [] site i h point = refl
found_is (c ∷ cs) site zero h point =
    let low : site_number site ≤ place_of c =
    ltb-false (place_of c) (site_number site) (point.1 0 c (omega arith) (omega arith)) in
    here_case site c cs (same_site (site_of c.column) site) refl
    (λ e. absent site (map column_terms_of cs) (above (site_number site) c cs low h.0))
found_is (c ∷ cs) site (suc i) h point =
    let high : place_of c < site_number site =
    ltb-true (place_of c) (site_number site) (point.0 0 c (omega arith) (omega arith)) in
    rw (other (site_of c.column) site (λ e. omega (arith, high, e)))
    (found_is cs site i h.1 (
      λ k d le lt. point.0 (suc k) d (omega arith) (omega (arith, lt)),
      λ k d le lt. point.1 (suc k) d (omega (arith, le)) (omega (arith, lt)),
    ))

without_case : (site : Site) (c : plain.ColumnTerms) (cs : List plain.ColumnTerms) (same : Bool)
    → terms_at site (map without_bounds cs) ≡ without_bounds (terms_at site cs)
    → cond same (without_bounds c) (terms_at site (map without_bounds cs))
    ≡ without_bounds (cond same c (terms_at site cs))
without_case site c cs true h = refl
without_case site c cs false h = h

pub without_is : (site : Site) (cs : List plain.ColumnTerms)
    → terms_at site (map without_bounds cs) ≡ without_bounds (terms_at site cs)
without_is site [] = refl
without_is site (c ∷ cs) = without_case site c cs (same_site c.column site) (without_is site cs)

-- what is got of a list, by what is told of it
pub got_is : (cs : List ColumnTerms) (i : ℕ) (o : Option (Bor ColumnTerms))
    → is_some o ≡ nat_lt i (length cs) → IfSome o (λ x. x.now ≡ get_or cs i x.now)
    → option_map (λ x. column_terms_of x.now) o ≡ slice_get (map column_terms_of cs) i
got_is cs i None some at =
    sym
    (slice_get-map column_terms_of cs i
    ∙ ap (option_map column_terms_of)
    (slice_get_past cs i (ltb-false i (length cs) (sym some))))
got_is cs i (Some x) some at =
    sym
    (slice_get-map column_terms_of cs i
    ∙ ap (option_map column_terms_of)
    (slice_get-get_or cs i x.now (ltb-true i (length cs) (sym some)) ∙ ap Some (sym at)))
