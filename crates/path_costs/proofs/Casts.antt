-- Machine integers that tell natural numbers.
use Rattle.std.specs.Prelude.{unsigned_abs}
use Rattle.std.specs.Int.{int_min}
use Rattle.std.specs.Int.RustNames.{FitsSigned}
use Rattle.std.proofs.Common.{◌≡◌, ◌≤◌, ℕ, ap, sym, ◌∙◌, subst, ℤ, pos, to_z, of_z, w32, min, arith}
use Rattle.std.proofs.lemmas.Int.{to_z-of_z, ints, clamps}
use Rattle.path_costs.specs.declared.cost.Size.{Size}

pub told_back : (z : ℤ) (n : ℕ) → FitsSigned w32 z → z ≡ pos n → to_z w32 (of_z w32 z) ≡ pos n
told_back z n f e = to_z-of_z w32 z f ∙ e

pub number_back : (z : ℤ) (n : ℕ) → FitsSigned w32 z → z ≡ pos n
    → unsigned_abs (to_z w32 (of_z w32 z)) ≡ n
number_back z n f e = ap unsigned_abs (told_back z n f e)

pub small_back : (z : ℤ) (n k : ℕ) → FitsSigned w32 z → z ≡ pos n → n ≤ k
    → unsigned_abs (to_z w32 (of_z w32 z)) ≤ k
small_back z n k f e h = subst (λ m. m ≤ k) (sym (number_back z n f e)) h

pub least_told : (m x y : ℤ) (a b : ℕ) → m ≡ int_min x y → x ≡ pos a → y ≡ pos b
    → m ≡ pos (min a b)
least_told m x y a b e f g = omega (arith, ints, clamps)

-- by its parts
abbrev pub size : ℤ → ℤ → Size
size run entries = record { run = run; entries = entries }
