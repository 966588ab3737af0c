use Rattle.std.proofs.Common.{◌≡◌, ◌++◌, Bool, List, drop, map}
use Rattle.expert_report.specs.Planning.{EachPlanMeans, MarksPlans, told_over}
use Rattle.expert_report.specs.Readings.{run_statements}
use Rattle.expert_report.proofs.planning.plan_spans.Given as goal

-- what is left to be planned
abbrev pub invariant-loop-span : goal.invariant-loop-span
invariant-loop-span l =
    let at = run_statements l.ground.own.now l.text l.tokens in
    let rest = at (drop l.span-index l.spans) in
    record {
      told : l.told ++ map (told_over l.ground) rest
          ≡ l.initial.told ++ map (told_over l.ground) (at l.spans);
      means : EachPlanMeans l.ground rest → EachPlanMeans l.ground (at l.spans);
      uses : (flags : List Bool) → MarksPlans l.ground l.uses flags rest
          → MarksPlans l.ground l.initial.uses flags (at l.spans);
    }
