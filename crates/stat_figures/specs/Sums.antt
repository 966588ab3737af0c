-- Logarithms of sums, where they may also be below 0.
use Rattle.std.specs.Prelude.{ℤ, pos, unsigned_abs, ◌+ℤ◌, ◌-ℤ◌}
use Rattle.std.specs.Int.{int_max}
use Rattle.plan_choice.specs.Logarithms.{sum_step}

-- the greater, and a step by the distance: where neither is below 0, `log_add` of `plan_choice`
abbrev pub log_sum : ℤ → ℤ → ℤ
log_sum a b = int_max a b +ℤ pos (sum_step (unsigned_abs (a -ℤ b)))
