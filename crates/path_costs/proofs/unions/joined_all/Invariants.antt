use Rattle.std.proofs.Common.{false, drop, map}
use Rattle.plan_choice.specs.Costs as meant
use Rattle.plan_choice.specs.CostLaws.{ArePlain}
use Rattle.plan_form.specs.Paths.{path_of, paths}
use Rattle.path_costs.proofs.Joining.{IsJoining}
use Rattle.path_costs.proofs.unions.joined_all.Given as goal

abbrev pub invariant-loop-branch : goal.invariant-loop-branch
invariant-loop-branch l = record {
  joining : IsJoining l.figures l.table
      (meant.sizes_from l.figures l.table (meant.size_of l.figures l.table false (path_of l.first))
      (paths (map (λ branch. path_of branch.now) l.further)))
      l.size (paths (map (λ branch. path_of branch.now) (drop l.branch-index l.further)));
  plain : ArePlain (paths (map (λ branch. path_of branch.now) (drop l.branch-index l.further)));
}
