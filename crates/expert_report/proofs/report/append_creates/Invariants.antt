use Rattle.std.proofs.Common.{◌≡◌, ◌++◌, drop}
use Rattle.expert_report.specs.Reports.{create_lines}
use Rattle.expert_report.proofs.report.append_creates.Given as goal

-- what is left to be written
abbrev pub invariant-loop-number : goal.invariant-loop-number
invariant-loop-number l =
    l.text ++ create_lines l.candidates (drop l.number-index l.numbers)
    ≡ l.initial.text ++ create_lines l.candidates l.numbers
