use Rattle.std.proofs.Common.{◌≡◌, ◌<◌, ◌++◌, ◌+◌, arith, ap, ◌∙◌, sym, subst, map, drop, get_or, length, List}
use Rattle.std.proofs.Common.{Option, None, ℕ}
use Rattle.list_laws.specs.Nest.{place}
use Rattle.sql_value.specs.View.{plain_value}
use Rattle.schema_model.specs.PlainSchemas.{plain_database}
use Rattle.sql_bound.specs.Statements.{bound_of}
use Rattle.sql_eval.specs.Environments.{placed}
use Rattle.sql_eval.specs.declared.environment.Place.{Place}
use Rattle.bound_rows.specs.Levels.{all_true, with_rows}
use Rattle.bound_rows.specs.Places.{FitPlaces, held, row_at, rows_at, assignments}
use Rattle.bound_rows.specs.Readable.{lent_exprs}
use Rattle.bound_rows.specs.Tested.{level_table}
use Rattle.list_laws.proofs.Turns.{dropped_or}
use Rattle.bound_rows.proofs.Placing.{others_still, truth_with, fit_more, found_more, placed_set}
use Rattle.bound_rows.proofs.rows.push_with_rows.Goals as goal

pub loop-row-preserved : goal.loop-row-preserved
loop-row-preserved c =
    let database = plain_database c.args.source.now.tables.now in
    let items = (bound_of c.args.level.now.bound.now).items in
    let params = map plain_value c.args.source.now.params.now in
    let level = c.args.level.now in
    let table = level_table level in
    let common = lent_exprs level.common.items in
    let outer = c.args.outer.now in
    let env = placed database outer in
    let rows = c.args.rows.now in
    let i = c.loop-row.row-index in
    let below : i < length rows = omega arith in
    let row : Option ℕ = get_or rows i None in
    let before = c.loop-row.places.items in
    let new = c.hold_with.new.places.items in
    let copy = c.as_slice-in-loop-row.result.now in
    let here : Place = record { table = table; row = row } in
    let still : copy ≡ new = c.as_slice-in-loop-row.ensures.value in
    let is : placed database copy ≡ place env level.item (row_at database table row) =
    ap (placed database) (still ∙ c.in_ok-holds.ensures.placed
    ∙ c.loop-row.invariant.others here) ∙ placed_set database outer level.item table row in
    record {
      places = c.in_ok-holds.ensures.fit;
      others = others_still outer before _ level.item _ c.loop-row.invariant.others
          c.in_ok-holds.ensures.placed;
      fit = λ h. fit_more (FitPlaces database items) c.in_ok-holds.holds
          (held c.loop-row.found.items) (held c.push_copy_if.new.lists.items) copy
          c.in_ok-push_copy_if.ensures
          (subst (λ (l : List Place). FitPlaces database items l) (sym still)
          c.in_ok-holds.ensures.fit) (c.loop-row.invariant.fit h);
      found = found_more database params common level.item env (row_at database table row)
          (rows_at database table (drop (i + 1) rows)) c.in_ok-holds.holds
          (held c.loop-row.found.items) (held c.push_copy_if.new.lists.items) copy _ is
          (truth_with database params common outer before _ level.item table row
          c.in_ok-holds.holds c.loop-row.invariant.others c.in_ok-holds.ensures.placed
          (c.in_ok-holds.ensures.truth
          ∙ ap (λ es. all_true params (lent_exprs es) (placed database c.hold_with.new.places.items))
          c.as_slice.ensures.value)) c.in_ok-push_copy_if.ensures
          (ap (λ l. assignments database (held c.loop-row.found.items)
          ++ with_rows params common level.item (rows_at database table l) env)
          (sym (dropped_or rows i None below)) ∙ c.loop-row.invariant.found);
    }
