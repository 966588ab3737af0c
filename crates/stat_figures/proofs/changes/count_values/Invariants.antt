use Rattle.std.proofs.Common.{◌≡◌, ℕ, suc, ◌+◌, ◌<◌, ◌≤◌, ◌∷◌, length, get_or, drop, take, map}
use Rattle.index_lists.specs.Lent.{lent_rows}
use Rattle.plan_choice.specs.Figures.{agree}
use Rattle.schema_model.specs.PlainSchemas.{plain_index_column, plain_row}
use Rattle.stat_figures.specs.Changes.{begins, changes}
use Rattle.stat_figures.proofs.changes.count_values.Given as goal

abbrev pub invariant-loop-row : goal.invariant-loop-row
invariant-loop-row l = record {
  len : length l.counts.items ≡ suc (length l.columns);
  few : (k : ℕ) → k < suc (length l.columns) → get_or l.counts.items k 0 ≤ l.row-index + 1;
  told : (k : ℕ) → k < suc (length l.columns)
      → get_or l.counts.items k 0
      + changes (agree (take k (map plain_index_column l.columns))) (plain_row l.last)
      (lent_rows (drop l.row-index l.rest))
      ≡ begins (agree (take k (map plain_index_column l.columns)))
      (plain_row l.first ∷ lent_rows l.rest);
}
