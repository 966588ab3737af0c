use Rattle.std.proofs.Common.{◌≡◌, ◌-◌, ◌++◌, length, map}
use Rattle.sql_meaning.specs.Statements.{numbers_from}
use Rattle.expert_advice.specs.Lines.{candidate_lines, line_at}
use Rattle.expert_advice.proofs.lines.candidate_lines.Given as goal

abbrev pub invariant-loop-number : goal.invariant-loop-number
invariant-loop-number l =
    l.lines
    ++ map (line_at l.full l.figures) (numbers_from l.number (length l.full.indexes - l.number))
    ≡ candidate_lines l.full l.figures l.own
