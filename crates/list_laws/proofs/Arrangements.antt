-- Free items may stand in any order.
use Rattle.std.specs.List.{AllByRecursion}
use Rattle.std.specs.List.Sorted.{IsPermutation}
use Rattle.std.proofs.Common.{◌≡◌, ◌≢◌, ℕ, ◌≤◌, Bool, true, cond, List, [], ◌∷◌, ◌++◌, refl}
use Rattle.std.proofs.Common.{sym, subst, arith, eqb}
use Rattle.std.proofs.lemmas.Bool.{eqb-true, eq-eqb}
use Rattle.list_laws.specs.Tally.{tally, SameTally}
use Rattle.list_laws.specs.Nest.{Distinct, Rearranges, next, same, swapped, after}
use Rattle.list_laws.proofs.Permutations.{Split, split_at, split_rest, nothing}
use Rattle.list_laws.proofs.Permutations.{SameTally-from_permutation}

all_parts : (P : ℕ → Type 0) (xs : List ℕ) (x : ℕ) (ys : List ℕ) → AllByRecursion P (xs ++ x ∷ ys)
    → P x × AllByRecursion P (xs ++ ys)
all_parts P [] x ys h = (h.0, h.1)
all_parts P (y ∷ xs) x ys h = let rest = all_parts P xs x ys h.1 in (rest.0, (h.0, rest.1))

-- what stands before one of them differs from it, and the others are distinct too
distinct_parts : (xs : List ℕ) (x : ℕ) (ys : List ℕ) → Distinct (xs ++ x ∷ ys)
    → AllByRecursion (λ y. x ≢ y) xs × Distinct (xs ++ ys)
distinct_parts [] x ys h = (tt, h.1)
distinct_parts (y ∷ xs) x ys h =
    let here = all_parts (λ j. j ≢ y) xs x ys h.0 in
    let rest = distinct_parts xs x ys h.1 in
    ((here.0, rest.0), (here.1, rest.1))

-- a free item goes past free items
moved : (free : ℕ → Bool) (i : ℕ) (before later : List ℕ) → free i ≡ true
    → AllByRecursion (λ j. free j ≡ true) before → AllByRecursion (λ j. i ≢ j) before
    → Rearranges free (i ∷ (before ++ later)) (before ++ i ∷ later)
moved free i [] later f g h = same (i ∷ later)
moved free i (j ∷ before) later f g h =
    after _ _ _ (swapped i j (before ++ later) h.0 f g.0)
    (next j _ _ (moved free i before later f g.1 h.1))

all_front : (P : ℕ → Type 0) (xs : List ℕ) (x : ℕ) (ys : List ℕ) → AllByRecursion P (xs ++ x ∷ ys)
    → AllByRecursion P xs
all_front P [] x ys h = tt
all_front P (y ∷ xs) x ys h = (h.0, all_front P xs x ys h.1)

from_tally : (free : ℕ → Bool) (is js : List ℕ) → AllByRecursion (λ i. free i ≡ true) js
    → Distinct js → SameTally is js → Rearranges free is js
from_tally free [] js f d t =
    subst (λ (ks : List ℕ). Rearranges free [] ks) (sym (nothing js (t.each (λ z. 1)))) (same [])
from_tally free (i ∷ is) js f d t =
    let one : 1 ≤ tally (λ z. cond (eqb i z) 1 0) js =
    rw (← t.each (λ z. cond (eqb i z) 1 0), eq-eqb i i refl) (omega arith) in
    let s : Split i js = split_at eqb eqb-true i js one in
    let here = subst (AllByRecursion (λ j. free j ≡ true)) s.is f in
    let frees = all_parts (λ j. free j ≡ true) s.front i s.back here in
    let parts = distinct_parts s.front i s.back (subst Distinct s.is d) in
    subst (λ (ks : List ℕ). Rearranges free (i ∷ is) ks) (sym s.is)
    (after _ _ _ (next i is _ (from_tally free is (s.front ++ s.back) frees.1 parts.1
    (split_rest i is js s t)))
    (moved free i s.front s.back frees.0 (all_front _ s.front i s.back here) parts.0))

-- distinct items that are all free stand in any order
pub Rearranges-from_permutation : (free : ℕ → Bool) (is js : List ℕ)
    → AllByRecursion (λ i. free i ≡ true) js → Distinct js → IsPermutation is js
    → Rearranges free is js
Rearranges-from_permutation free is js f d p =
    from_tally free is js f d (SameTally-from_permutation is js p)

front : (free : ℕ → Bool) (xs us vs : List ℕ) → Rearranges free us vs
    → Rearranges free (xs ++ us) (xs ++ vs)
front free [] us vs r = r
front free (x ∷ xs) us vs r = next x _ _ (front free xs us vs r)

back : (free : ℕ → Bool) (xs ys us : List ℕ) → Rearranges free xs ys
    → Rearranges free (xs ++ us) (ys ++ us)
back free xs ys us (same items) = same (items ++ us)
back free xs ys us (next i ps bs r) = next i _ _ (back free ps bs us r)
back free xs ys us (swapped i j ps n fi fj) = swapped i j (ps ++ us) n fi fj
back free xs ys us (after ps bs cs r s) = after _ _ _ (back free ps bs us r) (back free bs cs us s)

-- blocks of items, each in its place
pub Rearranges-append : (free : ℕ → Bool) (xs ys us vs : List ℕ) → Rearranges free xs ys
    → Rearranges free us vs → Rearranges free (xs ++ us) (ys ++ vs)
Rearranges-append free xs ys us vs r s = after _ _ _ (back free xs ys us r) (front free ys us vs s)
