use Rattle.std.proofs.Common.{◌≡◌, [], replicate}
use Rattle.access_paths.proofs.indexes.empty_lists.Given as goal

abbrev pub invariant-loop-table : goal.invariant-loop-table
invariant-loop-table l = l.lists.items ≡ replicate l._table []
