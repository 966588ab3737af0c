-- Digits that pass a limit.
use Rattle.std.proofs.Common.{◌≡◌, ℕ, zero, suc, ◌+◌, ◌-◌, ◌*◌, ◌≤◌, ◌<◌, Bool, ◌&&◌, nat_le, List}
use Rattle.std.proofs.Common.{[], ◌∷◌, None, Some, refl, arith, if◌then◌else◌, drop, length, get_or}
use Rattle.std.specs.Str.{all_ascii_digits}
use Rattle.sql_meaning.specs.Numbers.{digits_behind, digits_up_to}

-- what follows only makes it larger
pub grows : (n : ℕ) (cs : List ℕ) → n ≤ digits_behind n cs
grows n [] = omega arith
grows n (c ∷ cs) = let h = grows (10 * n + (c - 48)) cs in omega (arith, h)

past : (b : Bool) (n most : ℕ) → most < n → (if b && nat_le n most then Some n else None) ≡ None
past b n most h = grind arith

pub over : (most : ℕ) (text : List ℕ) → most < digits_behind 0 text → digits_up_to most text ≡ None
over most [] h = refl
over most (c ∷ cs) h = past (all_ascii_digits (c ∷ cs)) (digits_behind 0 (c ∷ cs)) most h

-- the digit at a place, and what follows
pub at_place : (n i : ℕ) (text : List ℕ) → i < length text
    → 10 * n + (get_or text i 0 - 48) ≤ digits_behind n (drop i text)
at_place n i [] h = absurd (omega (arith, h))
at_place n zero (c ∷ cs) h = grows (10 * n + (c - 48)) cs
at_place n (suc i) (c ∷ cs) h = at_place n i cs (omega (arith, h))
