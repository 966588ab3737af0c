-- Machine integers that tell natural numbers.
use Rattle.std.specs.Int.RustNames.{FitsSigned}
use Rattle.std.proofs.Common.{◌≡◌, ◌≢◌, ◌≤◌, ◌+◌, ◌==◌, ℕ, Bool, true, false, cond, List, [], ◌∷◌}
use Rattle.std.proofs.Common.{length, ap, ◌∙◌, ℤ, pos, to_z, of_z, w32, arith}
use Rattle.std.proofs.lemmas.Bool.{ne_eqb}
use Rattle.std.proofs.lemmas.Int.{to_z-of_z}
use Rattle.plan_choice.specs.Logarithms.{log_add}
use Rattle.plan_choice.specs.Prefixes.{OfferedLoop, cost_with}
use Rattle.plan_choice.proofs.CostBounds.{log_add_small}
use Rattle.nearest_prefixes.specs.Outsides.{IsLog}

pub told_back : (z : ℤ) (n : ℕ) → FitsSigned w32 z → z ≡ pos n → to_z w32 (of_z w32 z) ≡ pos n
told_back z n f e = to_z-of_z w32 z f ∙ e

pub log_back : (most : ℕ) (z : ℤ) (n : ℕ) → FitsSigned w32 z → z ≡ pos n → n ≤ most
    → IsLog most (to_z w32 (of_z w32 z))
log_back most z n f e h = record { number = n; is = told_back z n f e; few = h }

pub wider : (less most : ℕ) (z : ℤ) → FitsSigned w32 z → less ≤ most → IsLog less z
    → IsLog most (to_z w32 (of_z w32 z))
wider less most z f l h =
    let few = h.few in log_back most z h.number f h.is (omega (arith, l, few))

pub joined_small : (first : Bool) (c r most : ℕ) → c ≤ most → r ≤ most
    → cond first r (log_add c r) ≤ most + 10
joined_small true c r most h k = omega (arith, k)
joined_small false c r most h k = log_add_small c r most h k

-- the first loop is that behind none
pub first_cost : (n : ℕ) (ts : List OfferedLoop) (c r : ℕ) → n ≡ length ts
    → cond (n == 0) r (log_add c r) ≡ cost_with ts c r
first_cost n [] c r e = ap (λ m. cond (m == 0) r (log_add c r)) e
first_cost n (t ∷ ts) c r e =
    let some : n ≢ 0 = omega (arith, e) in
    ap (λ b. cond b r (log_add c r)) (ne_eqb n 0 some)
