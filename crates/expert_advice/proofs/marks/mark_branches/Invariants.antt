use Rattle.std.proofs.Common.{◌+◌, drop, map}
use Rattle.plan_choice.specs.Advice.{some_path_uses}
use Rattle.plan_choice.specs.CostLaws.{ArePlain}
use Rattle.plan_form.specs.Paths.{branches_of, path_of, paths}
use Rattle.expert_advice.proofs.Marking.{Reaches}
use Rattle.expert_advice.proofs.marks.mark_branches.Given as goal

abbrev pub invariant-loop-branch : goal.invariant-loop-branch
invariant-loop-branch l = record {
  reaches : Reaches l.uses
      (λ n. some_path_uses (l.own + n)
      (paths (map (λ branch. path_of branch.now) (drop l.branch-index l.union.branches.now))))
      l.initial.uses (λ n. some_path_uses (l.own + n) (branches_of l.union));
  plain : ArePlain
      (paths (map (λ branch. path_of branch.now) (drop l.branch-index l.union.branches.now)));
}
