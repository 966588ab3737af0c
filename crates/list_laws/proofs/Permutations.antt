-- Equal tallies and permutations.
use Rattle.std.specs.List.{sum_by}
use Rattle.std.specs.List.Sorted.{IsPermutation}
use Rattle.std.proofs.Common.{◌≡◌, ℕ, ◌+◌, List, [], ◌∷◌, refl, ap, sym, ◌∙◌, ◌++◌, ◌≤◌, Bool, true}
use Rattle.std.proofs.Common.{false, cond, arith, subst}
use Rattle.std.proofs.lemmas.List.Sums.{sum_by-cons}
use Rattle.std.proofs.lemmas.List.Sorted.{sum_by-IsPermutation, IsPermutation-refl}
use Rattle.std.proofs.lemmas.List.Sorted.{IsPermutation-sym, IsPermutation-trans}
use Rattle.std.proofs.lemmas.List.Sorted.{IsPermutation-cons, IsPermutation-middle}
use Rattle.list_laws.specs.Tally.{tally, SameTally}
use Rattle.list_laws.proofs.Tallies.{tally-append}

tally-sum_by : {X : Type 0} (f : X → ℕ) (xs : List X) → tally f xs ≡ sum_by f xs
tally-sum_by f [] = refl
tally-sum_by f (x ∷ xs) = ap (λ n. f x + n) (tally-sum_by f xs) ∙ sym (sum_by-cons f x xs)

-- a permutation has the same tallies
pub SameTally-from_permutation : {X : Type 0} (xs ys : List X) → IsPermutation xs ys
    → SameTally xs ys
SameTally-from_permutation xs ys h =
    record {
      each = λ f. tally-sum_by f xs ∙ sym (sum_by-IsPermutation f xs ys h)
          ∙ sym (tally-sum_by f ys);
    }

-- a split of a list at an element
pub record Split {X : Type 0} (x : X) (ys : List X) : Type 0 where
  pub front : List X
  pub back : List X
  pub is : ys ≡ front ++ x ∷ back

split_case : {X : Type 0} (E : X → X → Bool) → ((x y : X) → E x y ≡ true → x ≡ y)
    → (x y : X) (ys : List X) → (1 ≤ tally (λ z. cond (E x z) 1 0) ys → Split x ys) → (b : Bool)
    → E x y ≡ b → 1 ≤ cond b 1 0 + tally (λ z. cond (E x z) 1 0) ys → Split x (y ∷ ys)
split_case E same x y ys ih true e h =
    record { front = []; back = ys; is = ap (λ z. z ∷ ys) (sym (same x y e)) }
split_case E same x y ys ih false e h =
    let s =
    ih (omega arith) in record { front = y ∷ s.front; back = s.back; is = ap (λ zs. y ∷ zs) s.is }

pub split_at : {X : Type 0} (E : X → X → Bool) → ((x y : X) → E x y ≡ true → x ≡ y)
    → (x : X) (ys : List X) → 1 ≤ tally (λ z. cond (E x z) 1 0) ys → Split x ys
split_at E same x [] h = absurd (omega arith)
split_at E same x (y ∷ ys) h = split_case E same x y ys (split_at E same x ys) (E x y) refl h

pub nothing : {X : Type 0} (ys : List X) → 0 ≡ tally (λ z. 1) ys → ys ≡ []
nothing [] h = refl
nothing (y ∷ ys) h = absurd (omega arith)

-- without an element that both have, lists keep equal tallies
pub split_rest : {X : Type 0} (x : X) (xs ys : List X) (s : Split x ys) → SameTally (x ∷ xs) ys
    → SameTally xs (s.front ++ s.back)
split_rest x xs ys s h =
    record {
      each = λ f. let whole : f x + tally f xs ≡ tally f (s.front ++ x ∷ s.back) = h.each f
          ∙ ap (tally f) s.is in
          omega (arith, whole, tally-append f s.front (x ∷ s.back), tally-append f s.front s.back);
    }

-- where equality can be tested, lists with the same tallies are permutations of each other
pub IsPermutation-from_tally : {X : Type 0} (E : X → X → Bool) → ((x y : X) → E x y ≡ true → x ≡ y)
    → ((x : X) → E x x ≡ true) → (xs ys : List X) → SameTally xs ys → IsPermutation xs ys
IsPermutation-from_tally E same itself [] ys h =
    subst (λ (zs : List _). IsPermutation [] zs) (sym (nothing ys (h.each (λ z. 1))))
    (IsPermutation-refl [])
IsPermutation-from_tally {X} E same itself (x ∷ xs) ys h =
    let one : 1 ≤ tally (λ z. cond (E x z) 1 0) ys =
    rw (← h.each (λ z. cond (E x z) 1 0), itself x) (omega arith) in
    let s : Split x ys = split_at E same x ys one in
    subst (λ (zs : List X). IsPermutation (x ∷ xs) zs) (sym s.is)
    (IsPermutation-trans _ _ _
    (IsPermutation-cons x xs (s.front ++ s.back)
    (IsPermutation-from_tally E same itself xs (s.front ++ s.back) (split_rest x xs ys s h)))
    (IsPermutation-sym _ _ (IsPermutation-middle s.front x s.back)))
