use Rattle.std.proofs.Common.{◌≡◌, ℕ, length, slice_index_or, None}
use Rattle.stat_figures.specs.GivenCounts.{plain_slots}
use Rattle.stat_figures.proofs.given_rows.no_counts.Given as goal

abbrev pub invariant-loop-slot : goal.invariant-loop-slot
invariant-loop-slot l = record {
  len : length l.slots.items ≡ l._slot;
  none : (k : ℕ) → slice_index_or (plain_slots l.slots.items) k None ≡ None;
}
