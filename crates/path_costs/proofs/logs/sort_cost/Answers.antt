use Rattle.std.specs.Prelude.{unsigned_abs}
use Rattle.std.proofs.Common.{◌≡◌, ◌+◌, ℕ, ap, ◌∙◌, arith, pos, to_z, of_z, w32}
use Rattle.std.proofs.lemmas.Int.{ints, to_z_pos}
use Rattle.plan_choice.specs.Logarithms.{seek_cost, sort_cost}
use Rattle.path_costs.proofs.Casts.{number_back}
use Rattle.path_costs.proofs.logs.sort_cost.Goals as goal

sum_is : (count seek r : ℕ) → count ≡ r → seek ≡ seek_cost count
    → pos (count + seek + 30) ≡ pos (sort_cost r)
sum_is count seek r e f =
    ap (λ n. pos (count + n + 30)) f ∙ ap (λ n. pos (n + seek_cost n + 30)) e

pub returns : goal.returns
returns c = λ r e.
    let count = unsigned_abs (to_z w32 (of_z w32 c.args.rows)) in
    let same : count ≡ r = number_back c.args.rows r c.ranges.rows e in
    let small = c.seek_cost.ensures.small in
    let high = c.requires.high in
    to_z_pos w32 (count + c.seek_cost.result + 30) (omega (arith, ints, same, e, small, high))
    ∙ sum_is count c.seek_cost.result r same c.seek_cost.ensures.told
