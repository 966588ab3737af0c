-- The greatest power of 2 that is at most a number is the one that it lies above.
use Rattle.std.proofs.Common.{◌≡◌, ℕ, zero, suc, ◌*◌, ◌^◌, ◌≤◌, ◌<◌, Bool, true, false}
use Rattle.std.proofs.Common.{cond, refl, arith, leb}
use Rattle.std.proofs.lemmas.Bool.{leb-true, leb-false}
use Rattle.std.proofs.Math.Nat.{pow-suc, pow-le-pow_right}
use Rattle.plan_choice.specs.Logarithms.{exponent_from}

powers_rise : (i j : ℕ) → i ≤ j → 2 ^ i ≤ 2 ^ j
powers_rise i j h = pow-le-pow_right {n = 2} (omega arith) h

above : (n x e : ℕ) → x < 2 * 2 ^ e → e ≤ n → x < 2 ^ suc n
above n x e high k =
    let up = powers_rise (suc e) (suc n) (omega arith) in omega (arith, pow-suc 2 e)

not_top : (n x e : ℕ) → 2 ^ e ≤ x → x < 2 ^ suc n → e ≡ suc n → ⊥
not_top n x e low small q =
    let up = powers_rise (suc n) e (omega arith) in omega arith

beyond : (n x e : ℕ) → x < 2 * 2 ^ e → 2 ^ suc n ≤ x → (b : Bool) → leb e n ≡ b → n < e
beyond n x e high big true h = absurd (omega (arith, above n x e high (leb-true e n h)))
beyond n x e high big false h = leb-false e n h

step_case : (n x e p : ℕ) → e ≤ suc n → 2 ^ e ≤ x → x < 2 * 2 ^ e → (e ≤ n → p ≡ e) → (b : Bool)
    → leb (2 ^ suc n) x ≡ b → cond b (suc n) p ≡ e
step_case n x e p within low high ih true h =
    let big : 2 ^ suc n ≤ x = leb-true _ _ h in
    let far : n < e = beyond n x e high big (leb e n) refl in
    omega arith
step_case n x e p within low high ih false h =
    let small : x < 2 ^ suc n = leb-false _ _ h in
    let apart : e ≡ suc n → ⊥ = not_top n x e low small in
    ih (omega arith)

pub exponent_is : (n x e : ℕ) → e ≤ n → 2 ^ e ≤ x → x < 2 * 2 ^ e → exponent_from n x ≡ e
exponent_is zero x e within low high = omega arith
exponent_is (suc n) x e within low high =
    step_case n x e (exponent_from n x) within low high (λ k. exponent_is n x e k low high)
    (leb (2 ^ suc n) x) refl
