-- Tests with ` AND ` between, put together of pieces.
use Rattle.std.proofs.Common.{◌≡◌, ◌++◌, ◌==◌, ℕ, Bool, true, false, List, [], ◌∷◌, refl, ap, sym}
use Rattle.std.proofs.Common.{◌∙◌, append_assoc, append-nil, length, take, arith, suc, zero}
use Rattle.std.proofs.lemmas.List.{length-map}
use Rattle.std.proofs.lemmas.Bool.Decides.{nat_tests}
use Rattle.std.proofs.Common.{◌≤◌, slice_index_or}
use Rattle.plan_form.specs.Texts.{joined, further, joined_at, equal_tests, bound_tests, index_tests}

pub joined_none : (first : Bool) → joined_at first [] ≡ []
joined_none true = refl
joined_none false = refl

pub further_append : (xs ys : List (List ℕ)) → further (xs ++ ys) ≡ further xs ++ further ys
further_append [] ys = refl
further_append (x ∷ xs) ys =
    ap (λ text. (32 ∷ 65 ∷ 78 ∷ 68 ∷ 32 ∷ x) ++ text) (further_append xs ys)
    ∙ sym (append_assoc (32 ∷ 65 ∷ 78 ∷ 68 ∷ 32 ∷ x) (further xs) (further ys))

pub joined_append : (xs ys : List (List ℕ)) (first : Bool) → first ≡ (length xs == 0)
    → joined (xs ++ ys) ≡ joined xs ++ joined_at first ys
joined_append [] ys true e = refl
joined_append [] ys false e = absurd (let t : false ≡ true = e in cc)
joined_append (x ∷ xs) ys true e = absurd (grind (arith, nat_tests, e))
joined_append (x ∷ xs) ys false e =
    ap (λ text. x ++ text) (further_append xs ys) ∙ sym (append_assoc x (further xs) (further ys))

-- the first test, and those behind it
pub joined_step : (first : Bool) (test : List ℕ) (tests : List (List ℕ))
    → joined_at first (test ∷ []) ++ further tests ≡ joined_at first (test ∷ tests)
joined_step true test tests = ap (λ text. text ++ further tests) (append-nil test)
joined_step false test tests =
    ap (λ text. text ++ further tests) (append-nil (32 ∷ 65 ∷ 78 ∷ 68 ∷ 32 ∷ test))

length_taken : {X : Type 0} (n : ℕ) (xs : List X) → n ≤ length xs → length (take n xs) ≡ n
length_taken zero xs within = refl
length_taken (suc n) [] within = absurd (omega (arith, within))
length_taken (suc n) (x ∷ xs) within = ap suc (length_taken n xs (omega (arith, within)))

-- the tests of a search are those of equal columns and those of the next
pub tests_are : (names : List (List ℕ)) (equals : ℕ) (low high : Bool) → equals ≤ length names
    → joined (equal_tests (take equals names))
    ++ joined_at (equals == 0) (bound_tests (slice_index_or names equals []) low high)
    ≡ joined (index_tests names equals low high)
tests_are names equals low high within =
    sym
    (joined_append (equal_tests (take equals names))
    (bound_tests (slice_index_or names equals []) low high) (equals == 0)
    (ap (λ n. n == 0)
    (sym (length-map (take equals names) _ ∙ length_taken equals names within))))
