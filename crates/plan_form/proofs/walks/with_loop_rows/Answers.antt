use Rattle.std.proofs.Common.{◌≡◌, ◌<◌, ◌≤◌, ◌+◌, ◌++◌, [], ℕ, List, Some, Option, ap, ◌∙◌, sym, subst, map, drop, length, arith}
use Rattle.std.proofs.lemmas.List.{length-map}
use Rattle.std.specs.Prelude.{slice_index_or}
use Rattle.std.specs.List.{AllByRecursion, slice_get}
use Rattle.list_laws.proofs.Lists.{all_map}
use Rattle.sql_meaning.proofs.Links.{all_at}
use Rattle.sql_meaning.specs.Rows.{Row, Assignment}
use Rattle.sql_meaning.specs.Statements.{is_left}
use Rattle.sql_value.specs.View.{plain_value}
use Rattle.schema_model.specs.PlainSchemas.{plain_database, plain_rows}
use Rattle.sql_bound.specs.Statements.{bound_of}
use Rattle.sql_eval.specs.Environments.{placed}
use Rattle.bound_rows.specs.Levels.{with_rows, level_rows}
use Rattle.bound_rows.specs.Places.{FitPlaces, assignments, held, rows_at}
use Rattle.bound_rows.specs.Readable.{lent_exprs}
use Rattle.bound_rows.specs.Tested.{level_table}
use Rattle.list_laws.proofs.Turns.{dropped_get}
use Rattle.bound_rows.proofs.Testing.{rows_counted}
use Rattle.plan_form.specs.LoopRows.{walked_rows}
use Rattle.plan_form.specs.Plans.{loop_of}
use Rattle.plan_form.specs.Seeks.{walked_paths}
use Rattle.plan_form.proofs.FittingPaths.{forms_give}
use Rattle.plan_form.proofs.Turns.{flat_turn, numbered, nothing_left}
use Rattle.plan_form.proofs.walks.with_loop_rows.Goals as goal

pub loop_numbers-requires-clause-gives : goal.loop_numbers-requires-clause-gives
loop_numbers-requires-clause-gives c =
    let database = plain_database c.args.source.now.tables.now in
    let params = map plain_value c.args.source.now.params.now in
    let level = c.args.level.now in
    let bound = bound_of level.bound.now in
    let places = c.places_at-places.result.now in
    let fit : FitPlaces database bound.items places =
    all_at (FitPlaces database bound.items) (held c.args.outer.now) c.loop-number.number places
    c.requires.outer c.places_at-places.ensures in
    forms_give database bound.items places (walked_paths (loop_of c.args.each.now).path) fit
    c.requires.readable

pub extend-requires-clause-outer : goal.extend-requires-clause-outer
extend-requires-clause-outer c =
    let database = plain_database c.args.source.now.tables.now in
    let params = map plain_value c.args.source.now.params.now in
    let level = c.args.level.now in
    let bound = bound_of level.bound.now in
    all_at (FitPlaces database bound.items) (held c.args.outer.now) c.loop-number.number
    c.places_at-places.result.now c.requires.outer c.places_at-places.ensures

pub extend-requires-clause-rows : goal.extend-requires-clause-rows
extend-requires-clause-rows c =
    let database = plain_database c.args.source.now.tables.now in
    let params = map plain_value c.args.source.now.params.now in
    let level = c.args.level.now in
    let bound = bound_of level.bound.now in
    let as_many : length c.args.table.now ≡ length (slice_index_or database (level_table level) []) =
    rows_counted database (level_table level) c.args.table.now c.requires.table in
    let within : AllByRecursion (λ number. number < length c.args.table.now) c.as_slice.result.now =
    subst (λ (l : List ℕ). AllByRecursion (λ number. number < length c.args.table.now) l)
    (sym c.as_slice.ensures.value) c.in_ok-numbers.ensures.within in
    all_map _ _ c.as_slice.result.now
    (λ number lt. subst (λ (n : ℕ). number < n) as_many lt) within

pub loop-number-preserved : goal.loop-number-preserved
loop-number-preserved c =
    let database = plain_database c.args.source.now.tables.now in
    let params = map plain_value c.args.source.now.params.now in
    let level = c.args.level.now in
    let bound = bound_of level.bound.now in
    let each = loop_of c.args.each.now in
    let n = c.loop-number.number in
    let places = c.places_at-places.result.now in
    let env = placed database places in
    let owned = lent_exprs level.owned.items in
    let common = lent_exprs level.common.items in
    let table = plain_rows c.args.table.now in
    let lists = held c.args.outer.now in
    record {
      fit = c.in_ok-extend.ensures.fit c.loop-number.invariant.fit;
      found = λ schema are.
          let seen : List (Option Row) → List Assignment = λ rows.
          with_rows params common level.item
          (level_rows (is_left bound level.item) params owned level.item rows env) env in
          let rows : rows_at database (level_table level) (map Some c.as_slice.result.now)
          ≡ map Some (walked_rows schema params each table env) =
          numbered database (level_table level) table c.as_slice.result.now c.requires.table
          ∙ ap (map (slice_get table)) c.as_slice.ensures.value
          ∙ c.in_ok-numbers.ensures.rows schema are in
          flat_turn
          (λ a. with_rows params common level.item
          (level_rows (is_left bound level.item) params owned level.item
          (map Some (walked_rows schema params each table a)) a) a)
          env (assignments database (drop n lists)) (assignments database (drop (n + 1) lists))
          (assignments database (held c.loop-number.found.items)) _ _
          (c.in_ok-extend.ensures.found
          ∙ ap (λ l. assignments database (held c.loop-number.found.items) ++ l) (ap seen rows))
          (ap (assignments database) (dropped_get lists n places c.places_at-places.ensures))
          (c.loop-number.invariant.found schema are);
    }

pub returns-clause-found : goal.returns-clause-found
returns-clause-found c = λ schema are.
    let database = plain_database c.args.source.now.tables.now in
    let params = map plain_value c.args.source.now.params.now in
    let level = c.args.level.now in
    let bound = bound_of level.bound.now in
    let n = c.loop-number.number in
    let lists = held c.args.outer.now in
    let past : length lists ≤ n =
    let e : length lists ≡ length c.args.outer.now = length-map c.args.outer.now _ in
    omega (arith, e) in
    nothing_left database _ lists n (assignments database (held c.loop-number.found.items)) past
    ∙ c.loop-number.invariant.found schema are
