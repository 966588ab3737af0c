use Rattle.std.proofs.Common.{◌<◌, drop}
use Rattle.std.specs.List.{AllByRecursion}
use Rattle.schema_read.proofs.autoindexes.are_within.Given as goal

abbrev pub invariant-loop-column : goal.invariant-loop-column
invariant-loop-column l =
    AllByRecursion (λ c. c.column < l.count) (drop l.column-index l.columns)
    → AllByRecursion (λ c. c.column < l.count) l.columns
