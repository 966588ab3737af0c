use Rattle.std.proofs.Common.{◌≡◌, Some, drop}
use Rattle.candidate_index.specs.Beginnings.{leads, reached}
use Rattle.candidate_index.proofs.beginnings.Beginnings.has.Given as goal

-- the columns that are left lead on from the node
abbrev pub invariant-loop-column : goal.invariant-loop-column
invariant-loop-column l =
    leads l.self (Some l.node) (drop l.column-index l.columns) ≡ reached l.self l.table l.columns
