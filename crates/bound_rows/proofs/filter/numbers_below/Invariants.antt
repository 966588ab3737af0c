use Rattle.std.proofs.Common.{◌≡◌}
use Rattle.sql_meaning.specs.Statements.{numbers_from}
use Rattle.bound_rows.proofs.filter.numbers_below.Given as goal

abbrev pub invariant-loop-number : goal.invariant-loop-number
invariant-loop-number l = l.numbers.items ≡ numbers_from 0 l.number
