-- The numbers that are kept beside columns are those of the columns.
use Rattle.std.specs.Prelude.{◌≡◌, ℕ, nat_eq}
use Rattle.std.specs.List.{list_any}
use Rattle.candidate_index.specs.Starts.{has_column}
use Rattle.candidate_index.specs.declared.starts.Start.TheInside.{Inside}

abbrev pub KeepsNumbers : Inside → Type 0
KeepsNumbers a = (number : ℕ) → list_any (nat_eq number) a.numbers.keys
    ≡ has_column number a.columns
