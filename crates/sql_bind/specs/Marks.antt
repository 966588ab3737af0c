-- Marks of columns.
use Rattle.std.specs.Prelude.{◌≡◌, ◌<◌, ◌||◌, ℕ, Bool, false, List, length, filter}
use Rattle.std.specs.Prelude.{slice_index_or}
use Rattle.std.specs.List.{range_with_len}

-- marks what is named, and keeps each mark
pub record Marks (named : ℕ → Bool) (old new : List Bool) : Type 0 where
  pub length_kept : length new ≡ length old
  pub each : (column : ℕ) → column < length old
      → slice_index_or new column false ≡ (slice_index_or old column false || named column)

abbrev pub marked_numbers : List Bool → List ℕ
marked_numbers marks =
    filter (λ column. slice_index_or marks column false) (range_with_len 0 (length marks))
