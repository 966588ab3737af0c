use Rattle.std.proofs.Common.{◌≡◌, take}
use Rattle.schema_model.proofs.copies.copy_indexes.Given as goal

abbrev pub invariant-loop-index : goal.invariant-loop-index
invariant-loop-index l = l.copy ≡ take l.index-index l.indexes
