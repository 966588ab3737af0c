use Rattle.std.proofs.Common.{◌≡◌, ◌++◌, ◌+◌, drop}
use Rattle.expert_report.specs.Reports.{blocks}
use Rattle.expert_report.proofs.report.append_blocks.Given as goal

-- what is left to be written
abbrev pub invariant-loop-statement : goal.invariant-loop-statement
invariant-loop-statement l =
    (l.number ≡ l.statement-index)
    × (l.text ++ blocks l.verbose l.candidates (l.number + 1) (drop l.statement-index l.statements)
    ≡ l.initial.text ++ blocks l.verbose l.candidates 1 l.statements)
