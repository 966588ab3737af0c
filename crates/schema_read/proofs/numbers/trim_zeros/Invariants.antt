use Rattle.std.proofs.Common.{◌≡◌, length}
use Rattle.sql_meaning.specs.Values.{without_trailing}
use Rattle.schema_read.proofs.numbers.trim_zeros.Given as goal

abbrev pub invariant-loop-rest : goal.invariant-loop-rest
invariant-loop-rest l = without_trailing 48 l.rest ≡ without_trailing 48 l.digits

abbrev pub decreases-loop-rest : goal.decreases-loop-rest
decreases-loop-rest l = length l.rest
