use Rattle.std.proofs.Common.{◌≡◌, ◌≤◌, ◌+◌, min, drop, map}
use Rattle.list_laws.specs.Tally.{tally}
use Rattle.plan_choice.specs.Costs.{part_seeks, seeks_of}
use Rattle.plan_form.specs.Paths.{part_of, parts_of}
use Rattle.path_costs.proofs.entries.seeks_of.Given as goal

abbrev pub invariant-loop-part : goal.invariant-loop-part
invariant-loop-part l = record {
  left : min 100000
      (l.seeks
      + tally part_seeks (map (λ part. part_of part.now) (drop l.part-index l.eqs.parts.now)))
      ≡ seeks_of (parts_of l.eqs);
  small : l.seeks ≤ 100000;
}
