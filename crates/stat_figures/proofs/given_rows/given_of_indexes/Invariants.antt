use Rattle.std.proofs.Common.{◌≡◌, ◌<◌, ℕ, length, slice_index_or, None, map, take, slice_get}
use Rattle.schema_model.specs.PlainSchemas.{plain_schema}
use Rattle.stat_figures.specs.GivenCounts.{plain_slots}
use Rattle.stat_figures.specs.Requests.{names_of, plain_given}
use Rattle.stat_figures.proofs.GivenLists.{given_at}
use Rattle.stat_figures.proofs.given_rows.given_of_indexes.Given as goal

abbrev pub invariant-loop-row : goal.invariant-loop-row
invariant-loop-row l = record {
  len : length l.slots.items ≡ length l.schema.indexes;
  given : (k : ℕ) → k < length l.schema.indexes
      → slice_index_or (plain_slots l.slots.items) k None
      ≡ given_at (names_of l.schema l.own) (map plain_given (take l.row-index l.given))
      (slice_get (plain_schema l.schema).indexes k)
      (slice_get (names_of l.schema l.own).indexes k);
}
