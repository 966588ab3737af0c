use Rattle.std.proofs.Common.{◌≡◌, ℕ, nat_eq, take}
use Rattle.std.specs.List.{list_any}
use Rattle.candidate_index.specs.Starts.{has_column}
use Rattle.candidate_index.proofs.starts.numbers_of.Given as goal

abbrev pub invariant-loop-column : goal.invariant-loop-column
invariant-loop-column l =
    (number : ℕ) → list_any (nat_eq number) l.numbers.keys
    ≡ has_column number (take l.column-index l.columns)
