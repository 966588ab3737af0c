use Rattle.std.proofs.Common.{◌≡◌, length}
use Rattle.sql_meaning.specs.Truth.{without_digits}
use Rattle.sql_value.proofs.condition.after_digits.Given as goal

abbrev pub invariant-loop-rest : goal.invariant-loop-rest
invariant-loop-rest l = without_digits l.rest ≡ without_digits l.text

abbrev pub decreases-loop-rest : goal.decreases-loop-rest
decreases-loop-rest l = length l.rest
