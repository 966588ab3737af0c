-- Sizes and costs as whole numbers: ten times the logarithm to the base 2, so that 33 stands for 10
-- rows and 10 more for twice as many (queryplanner-ng).
use Rattle.std.specs.Prelude.{ℕ, zero, suc, ◌+◌, ◌-◌, ◌*◌, ◌/◌, ◌^◌, cond, nat_lt, nat_le}
use Rattle.std.specs.Prelude.{max, slice_index_or, List, [], ◌∷◌, length}
use Rattle.std.specs.List.{filter}

-- the greatest e with 2 ^ e at most x, looked for from `most` down; 0 where there is none
abbrev pub exponent_from : ℕ → ℕ → ℕ
exponent_from zero x = 0
exponent_from (suc most) x =
    let below = exponent_from most x in cond (nat_le (2 ^ suc most) x) (suc most) below

-- ten times the logarithm of 8/8, 9/8 .. 15/8
abbrev pub tenths : List ℕ
tenths = 0 ∷ 2 ∷ 3 ∷ 5 ∷ 6 ∷ 7 ∷ 8 ∷ 9 ∷ []

abbrev pub log_from : ℕ → ℕ → ℕ
log_from x e = 10 * e + slice_index_or tenths (8 * x / 2 ^ e - 8) 0

-- ten times the logarithm of x, cut to the eighth below; for x below 2 ^ 64
abbrev pub log_est : ℕ → ℕ
log_est x = cond (nat_lt x 2) 0 (log_from x (exponent_from 63 x))

-- the greatest distances at which the lesser of two adds 10, 9 .. 1 to the greater
abbrev pub step_ends : List ℕ
step_ends = 1 ∷ 3 ∷ 5 ∷ 8 ∷ 11 ∷ 14 ∷ 18 ∷ 24 ∷ 31 ∷ 49 ∷ []

abbrev pub sum_step : ℕ → ℕ
sum_step d = length (filter (λ end. nat_le d end) step_ends)

abbrev pub distance : ℕ → ℕ → ℕ
distance a b = (a - b) + (b - a)

-- the logarithm of the sum of two numbers whose logarithms these are
abbrev pub log_add : ℕ → ℕ → ℕ
log_add a b = max a b + sum_step (distance a b)

-- what a seek costs in a table of that many rows: the depth of its tree
abbrev pub seek_cost : ℕ → ℕ
seek_cost rows = cond (nat_le rows 10) 0 (log_est rows - 33)

-- what it costs to sort that many rows
abbrev pub sort_cost : ℕ → ℕ
sort_cost rows = rows + seek_cost rows + 30
