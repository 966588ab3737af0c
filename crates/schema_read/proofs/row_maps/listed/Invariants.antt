use Rattle.std.proofs.Common.{◌≡◌}
use Rattle.schema_read.proofs.row_maps.listed.Given as goal

abbrev pub invariant-loop-value : goal.invariant-loop-value
invariant-loop-value l = l.list ≡ l.yielded
