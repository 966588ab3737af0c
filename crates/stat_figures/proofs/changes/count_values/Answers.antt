use Rattle.std.proofs.Common.{◌+◌, suc, arith, ap, leb, drop, get_or, sym, ◌∙◌, map}
use Rattle.std.proofs.Common.{take}
use Rattle.std.proofs.lemmas.List.{length-map}
use Rattle.index_lists.specs.Lent.{lent_rows}
use Rattle.plan_choice.specs.Figures.{agree}
use Rattle.schema_model.specs.PlainSchemas.{plain_index_column, plain_row}
use Rattle.stat_figures.specs.Changes.{changes}
use Rattle.list_laws.proofs.Turns.{next_dropped}
use Rattle.stat_figures.proofs.Prefixes.{changes_step, raised_by}
use Rattle.stat_figures.proofs.changes.count_values.Goals as goal

pub loop-row-preserved : goal.loop-row-preserved
loop-row-preserved c =
    let columns = map plain_index_column c.args.columns.now in
    let i = c.loop-row.row-index in
    let counts = c.loop-row.counts.items in
    record {
      len = omega arith;
      few = λ k h. raised_by (leb (suc c.shared-place.result) k) (get_or counts k 0) (i + 1) _
          (c.loop-row.invariant.few k h) (c.raise_behind.ensures.raised k (omega arith));
      told = λ k h.
          changes_step columns k (plain_row c.loop-row.last.now) (plain_row c.row-item.result.now)
          (lent_rows (drop (i + 1) c.args.rest.now)) (get_or counts k 0) _ _ c.shared-place.result
          (simp length-map (omega arith)) c.shared-place.ensures.told
          (ap
          (λ later. get_or counts k 0
          + changes (agree (take k columns)) (plain_row c.loop-row.last.now) (lent_rows later))
          (sym (next_dropped c.args.rest.now i c.row-item.result (omega arith) c.row-item.is))
          ∙ c.loop-row.invariant.told k h)
          (c.raise_behind.ensures.raised k (omega arith));
    }
