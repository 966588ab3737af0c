use Rattle.std.proofs.Common.{[], ◌∷◌}
use Rattle.plan_form.specs.Plans.{plan_of}
use Rattle.expert_advice.proofs.UseOfPlans.{plan_shows}
use Rattle.expert_advice.proofs.marks.used_by.Goals as goal

pub returns : goal.returns
returns c = λ chosen e.
    c.in_ok-numbers.ensures c.args.own c.args.count (chosen ∷ [])
    (plan_shows _ _ c.args.own c.args.count (plan_of c.args.plan.now) chosen e
    (c.in_ok-uses.ensures c.args.own) c.mark_plan.ensures)
