use Rattle.std.proofs.Common.{◌≡◌, drop}
use Rattle.sql_meaning.specs.Statements.{has_number}
use Rattle.path_costs.proofs.offered.has_number.Given as goal

abbrev pub invariant-loop-other : goal.invariant-loop-other
invariant-loop-other l =
    has_number l.number (drop l.other-index l.numbers) ≡ has_number l.number l.numbers
