-- What holds of numbers below an end, and of what is found.
use Rattle.std.proofs.Common.{◌≡◌, ◌<◌, ◌+◌, ℕ, zero, suc, Bool, true, false, cond, Option, Some}
use Rattle.std.proofs.Common.{None}
use Rattle.std.proofs.Common.{List, [], ◌∷◌, arith}
use Rattle.std.specs.List.{AllByRecursion, range_with_len, find}

-- numbers below the end
range_below : (P : ℕ → Type 0) (start n end : ℕ) → start + n ≡ end
    → ((k : ℕ) → k < end → P k) → AllByRecursion P (range_with_len start n)
range_below P start zero end e f = tt
range_below P start (suc n) end e f =
    (f start (omega (arith, e)), range_below P (start + 1) n end (omega (arith, e)) f)

pub all_below : (P : ℕ → Type 0) (n : ℕ) → ((k : ℕ) → k < n → P k)
    → AllByRecursion P (range_with_len 0 n)
all_below P n f = range_below P 0 n n (omega arith) f

-- the one that is found, if one is
abbrev pub OfFound : {X : Type 0} → (X → Type 0) → Option X → Type 0
OfFound P None = Unit {0}
OfFound P (Some x) = P x

found_if : {X : Type 0} (P : X → Type 0) (b : Bool) (x : X) (rest : Option X) → P x
    → OfFound P rest → OfFound P (cond b (Some x) rest)
found_if P true x rest p a = p
found_if P false x rest p a = a

pub all_found : {X : Type 0} (P : X → Type 0) (test : X → Bool) (xs : List X)
    → AllByRecursion P xs → OfFound P (find test xs)
all_found P test [] a = tt
all_found P test (x ∷ xs) a =
    found_if P (test x) x (find test xs) a.0 (all_found P test xs a.1)
