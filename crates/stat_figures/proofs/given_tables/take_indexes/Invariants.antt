use Rattle.std.proofs.Common.{◌≡◌, ◌<◌, ◌-◌, ℕ, length, slice_index_or, drop}
use Rattle.plan_choice.specs.GivenFigures as meant
use Rattle.schema_model.specs.PlainSchemas.{plain_schema}
use Rattle.stat_figures.specs.GivenCounts.{plain_slots}
use Rattle.stat_figures.proofs.given_tables.take_indexes.Given as goal

abbrev pub invariant-loop-passed : goal.invariant-loop-passed
invariant-loop-passed l = record {
  len : length l.tables.items ≡ length l.fn.tables.items;
  taken : (k : ℕ) → k < length l.fn.tables.items
      → slice_index_or l.tables.items k 0
      ≡ meant.first_of_table k (drop (l.count - l.passed) (plain_schema l.schema).indexes)
      (drop (l.count - l.passed) (plain_slots l.slots)) (slice_index_or l.fn.tables.items k 0);
}
