use Rattle.std.proofs.Common.{◌≡◌, ◌++◌, drop}
use Rattle.candidate_index.proofs.starts.append.Given as goal

abbrev pub invariant-loop-column : goal.invariant-loop-column
invariant-loop-column l =
    l.written ++ drop l.column-index l.columns ≡ l.initial.written ++ l.columns
