use Rattle.std.proofs.Common.{◌≡◌, ◌++◌, drop}
use Rattle.std.specs.List.{flat_map}
use Rattle.statement_scans.specs.Asked.{appearing, derived_in}
use Rattle.statement_scans.proofs.appearing.appearing.Given as goal

abbrev pub invariant-loop-column : goal.invariant-loop-column
invariant-loop-column l =
    l.direct.items ++ flat_map derived_in (drop l.column-index l.columns)
    ≡ appearing l.initial.direct.items l.columns
