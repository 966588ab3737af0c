-- Logarithms of sums of numbers.
use Rattle.std.proofs.Common.{◌≡◌, ℕ, arith, refl, max, pos}
use Rattle.std.specs.Prelude.{unsigned_abs, ◌-ℤ◌}
use Rattle.std.specs.Int.{int_max}
use Rattle.std.proofs.lemmas.Int.{ints, clamps}
use Rattle.plan_choice.specs.Logarithms.{log_add, distance}
use Rattle.stat_figures.specs.Sums.{log_sum}

greater : (n m : ℕ) → int_max (pos n) (pos m) ≡ pos (max n m)
greater n m = omega (arith, ints, clamps)

apart : (n m : ℕ) → unsigned_abs (pos n -ℤ pos m) ≡ distance n m
apart n m = omega (arith, ints)

pub sum_of_numbers : (n m : ℕ) → log_sum (pos n) (pos m) ≡ pos (log_add n m)
sum_of_numbers n m = rw (greater n m, apart n m) refl
