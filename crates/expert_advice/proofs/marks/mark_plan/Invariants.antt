use Rattle.std.proofs.Common.{◌+◌, drop, map}
use Rattle.std.specs.List.{AllByRecursion}
use Rattle.plan_choice.specs.Advice.{loops_use}
use Rattle.plan_choice.specs.CostLaws.{IsFlat}
use Rattle.plan_form.specs.Plans.{loop_of, plan_of}
use Rattle.expert_advice.proofs.Marking.{Reaches}
use Rattle.expert_advice.proofs.marks.mark_plan.Given as goal

abbrev pub invariant-loop-step : goal.invariant-loop-step
invariant-loop-step l = record {
  reaches : Reaches l.uses
      (λ n. loops_use (l.own + n) (map loop_of (drop l.step-index l.plan.loops.now)))
      l.initial.uses (λ n. loops_use (l.own + n) (plan_of l.plan).loops);
  flat : AllByRecursion (λ o. IsFlat o.path)
      (map loop_of (drop l.step-index l.plan.loops.now));
}
