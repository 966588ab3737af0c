use Rattle.std.proofs.Common.{◌≡◌, ◌++◌, Bool, List, drop, map}
use Rattle.expert_report.specs.Planning.{EachPlanMeans, MarksPlans, told_over}
use Rattle.expert_report.specs.Readings.{script_statements}
use Rattle.expert_report.proofs.planning.plan_script.Given as goal

-- what is left to be planned
abbrev pub invariant-loop-piece : goal.invariant-loop-piece
invariant-loop-piece l =
    let of = script_statements l.ground.own.now in
    let rest = of (drop l.piece-index l.script) in
    record {
      told : l.told ++ map (told_over l.ground) rest ≡ map (told_over l.ground) (of l.script);
      means : EachPlanMeans l.ground rest → EachPlanMeans l.ground (of l.script);
      uses : (flags : List Bool) → MarksPlans l.ground l.uses flags rest
          → MarksPlans l.ground l.initial.uses flags (of l.script);
    }
