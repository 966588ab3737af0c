use Rattle.std.proofs.Common.{◌≡◌, ◌++◌, drop}
use Rattle.plan_choice.specs.Scans.{apart_from}
use Rattle.candidate_index.proofs.StartColumns.{seen}
use Rattle.candidate_index.proofs.starts.Start.then.Given as goal

abbrev pub invariant-loop-column : goal.invariant-loop-column
invariant-loop-column l =
    seen l.list ++ apart_from (seen l.self) (seen (drop l.column-index l.others))
    ≡ seen l.self ++ apart_from (seen l.self) (seen l.others)
