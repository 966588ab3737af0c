-- Quotients upwards.
use Rattle.std.proofs.Common.{◌≡◌, ℕ, zero, suc, ◌+◌, ◌-◌, ◌*◌, ◌/◌, ◌%◌, ◌<◌, arith, ap, sym, ◌∙◌}
use Rattle.std.proofs.Common.{min}
use Rattle.std.proofs.Math.Nat.{div-add-mod, mod-lt, mul-add-div, div-eq_of_lt}
use Rattle.plan_choice.specs.Figures.{quotient_up}

quotient_case : (m d q r : ℕ) → 0 < d → d * q + r ≡ m → r < d → q + min 1 r ≡ quotient_up m d
quotient_case m d q zero p e l =
    let below : m + d - 1 ≡ d * q + (d - 1) = omega arith in
    sym
    (ap (λ n. n / d) below ∙ mul-add-div p q (d - 1)
    ∙ ap (λ n. q + n) (div-eq_of_lt (omega arith)))
quotient_case m d q (suc r) p e l =
    let above : m + d - 1 ≡ d * q + (d + r) = omega arith in
    let one_more : d + r ≡ d * 1 + r = omega arith in
    sym
    (ap (λ n. n / d) above ∙ mul-add-div p q (d + r)
    ∙ ap (λ n. q + n / d) one_more
    ∙ ap (λ n. q + n) (mul-add-div p 1 r ∙ ap (λ n. 1 + n) (div-eq_of_lt (omega arith)) ∙ one_is r))
  where
    one_is : (r : ℕ) → 1 + 0 ≡ min 1 (suc r)
    one_is r = omega arith

pub quotient_is : (m d : ℕ) → 0 < d → m / d + min 1 (m % d) ≡ quotient_up m d
quotient_is m d p = quotient_case m d (m / d) (m % d) p (div-add-mod m d) (mod-lt m p)
