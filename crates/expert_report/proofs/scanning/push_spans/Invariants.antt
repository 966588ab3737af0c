use Rattle.std.proofs.Common.{List, drop}
use Rattle.candidate_index.specs.declared.asked.Scan.{Scan}
use Rattle.expert_report.specs.Planning.{AddsScans}
use Rattle.expert_report.specs.Readings.{bound_in, run_statements}
use Rattle.expert_report.proofs.scanning.push_spans.Given as goal

-- what is left to be asked
abbrev pub invariant-loop-span : goal.invariant-loop-span
invariant-loop-span l =
    let at = run_statements l.schema l.text l.tokens in
    (made : List (List Scan)) → AddsScans l.schema l.made made (bound_in (at (drop l.span-index l.spans)))
    → AddsScans l.schema l.initial.made made (bound_in (at l.spans))
