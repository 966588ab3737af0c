use Rattle.std.proofs.Common.{List, [], drop}
use Rattle.candidate_index.specs.declared.asked.Scan.{Scan}
use Rattle.expert_report.specs.Planning.{AddsScans}
use Rattle.expert_report.specs.Readings.{bound_in, script_statements}
use Rattle.expert_report.proofs.scanning.script_scans.Given as goal

-- what is left to be asked
abbrev pub invariant-loop-piece : goal.invariant-loop-piece
invariant-loop-piece l =
    let of = script_statements l.schema in
    (made : List (List Scan)) → AddsScans l.schema l.made made (bound_in (of (drop l.piece-index l.script)))
    → AddsScans l.schema [] made (bound_in (of l.script))
