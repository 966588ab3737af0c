use Rattle.std.proofs.Common.{◌<◌, ◌+◌, arith, ap, ◌∙◌, map, drop, get_or, length}
use Rattle.std.proofs.Common.{Option, Some, ℕ, []}
use Rattle.std.specs.Prelude.{slice_index_or}
use Rattle.list_laws.specs.Nest.{place}
use Rattle.sql_value.specs.View.{plain_value}
use Rattle.schema_model.specs.PlainSchemas.{plain_database}
use Rattle.sql_eval.specs.Environments.{placed}
use Rattle.bound_rows.specs.Levels.{all_true}
use Rattle.bound_rows.specs.Places.{IsRowOf, row_at}
use Rattle.bound_rows.specs.Readable.{lent_exprs}
use Rattle.bound_rows.specs.Tested.{level_table}
use Rattle.list_laws.proofs.Turns.{dropped_or}
use Rattle.bound_rows.proofs.Placing.{others_still, truth_with, fit_more, kept_more}
use Rattle.list_laws.proofs.Lists.{all_get}
use Rattle.bound_rows.proofs.rows.level_rows.Goals as goal

pub loop-number-preserved : goal.loop-number-preserved
loop-number-preserved c =
    let database = plain_database c.args.source.now.tables.now in
    let params = map plain_value c.args.source.now.params.now in
    let level = c.args.level.now in
    let owned = lent_exprs level.owned.items in
    let outer = c.args.outer.now in
    let rows = c.args.rows.now in
    let i = c.loop-number.number-index in
    let below : i < length rows = omega arith in
    let n : ℕ = get_or rows i 0 in
    let row : Option ℕ = Some n in
    let before = c.loop-number.places.items in
    record {
      places = c.in_ok-holds.ensures.fit;
      others = others_still outer before _ level.item _ c.loop-number.invariant.others
          c.in_ok-holds.ensures.placed;
      fit = fit_more (IsRowOf database (level_table level)) c.in_ok-holds.holds
          c.loop-number.kept.items c.push_if.new.list.items row c.in_ok-push_if.ensures
          (all_get (λ r. r < length (slice_index_or database (level_table level) [])) rows i 0
          c.requires.rows below) c.loop-number.invariant.fit;
      kept = kept_more (row_at database (level_table level))
          (λ x. all_true params owned (place (placed database outer) level.item x))
          (map Some (drop i rows)) row (map Some (drop (i + 1) rows)) c.in_ok-holds.holds
          c.loop-number.kept.items c.push_if.new.list.items _
          (ap (map Some) (dropped_or rows i 0 below))
          (truth_with database params owned outer before _ level.item (level_table level) row
          c.in_ok-holds.holds c.loop-number.invariant.others c.in_ok-holds.ensures.placed
          (c.in_ok-holds.ensures.truth
          ∙ ap (λ es. all_true params (lent_exprs es) (placed database c.hold_with.new.places.items))
          c.as_slice.ensures.value)) c.in_ok-push_if.ensures c.loop-number.invariant.kept;
    }
