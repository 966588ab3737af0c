use Rattle.std.proofs.Common.{◌≡◌, ◌++◌, drop}
use Rattle.schema_read.specs.Autoindexes.{shape_of}
use Rattle.schema_read.proofs.autoindexes.shape_of.Given as goal

abbrev pub invariant-loop-column : goal.invariant-loop-column
invariant-loop-column l =
    l.shape.items ++ shape_of (drop l.column-index l.columns) ≡ shape_of l.columns
