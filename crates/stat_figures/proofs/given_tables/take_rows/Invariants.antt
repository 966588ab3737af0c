use Rattle.std.proofs.Common.{◌≡◌, ◌<◌, ℕ, length, slice_index_or, None, map, take}
use Rattle.plan_choice.specs.GivenFigures as meant
use Rattle.stat_figures.specs.Requests.{names_of, plain_given}
use Rattle.stat_figures.proofs.given_tables.take_rows.Given as goal

abbrev pub invariant-loop-row : goal.invariant-loop-row
invariant-loop-row l = record {
  len : length l.tables.items ≡ length l.fn.tables.items;
  taken : (k : ℕ) → k < length l.fn.tables.items
      → slice_index_or l.tables.items k 0
      ≡ meant.table_or
      (meant.last_counts (meant.table_counts (names_of l.schema 0) k) None
      (map plain_given (take l.row-index l.given)))
      (slice_index_or l.fn.tables.items k 0);
}
