use Rattle.std.proofs.Common.{drop}
use Rattle.candidate_index.specs.Beginnings.{with_steps}
use Rattle.candidate_index.proofs.TreeWalks.{IsOn}
use Rattle.candidate_index.proofs.beginnings.Beginnings.add.Given as goal

abbrev pub invariant-loop-column : goal.invariant-loop-column
invariant-loop-column l =
    IsOn l.self-inside.steps.keys l.node (drop l.column-index l.columns)
    (with_steps l.initial.self-inside.steps.keys l.initial.node l.columns)
