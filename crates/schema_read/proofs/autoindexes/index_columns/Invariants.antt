use Rattle.std.proofs.Common.{◌≡◌, take}
use Rattle.schema_read.specs.Autoindexes.{index_columns}
use Rattle.schema_read.proofs.autoindexes.index_columns.Given as goal

abbrev pub invariant-loop-column : goal.invariant-loop-column
invariant-loop-column l = l.found ≡ index_columns l.columns (take l.column-index l.key)
