use Rattle.std.proofs.Common.{◌≡◌, ◌<◌, ◌≤◌, ◌++◌, ◌∷◌, [], ℕ, Bool, List, arith, ap, ◌∙◌, sym, subst, map, length}
use Rattle.std.proofs.Common.{true, false, Some, take}
use Rattle.std.specs.List.{AllByRecursion, flat_map}
use Rattle.std.proofs.lemmas.List.{length-map}
use Rattle.list_laws.specs.Nest.{nested}
use Rattle.list_laws.proofs.Lists.{all_map}
use Rattle.sql_meaning.proofs.Links.{all_at}
use Rattle.sql_meaning.specs.Rows.{Assignment}
use Rattle.sql_meaning.specs.Fitting.{PathFits, path_keys}
use Rattle.sql_meaning.specs.Plans.{consumed_by, steps_of, directed_walk}
use Rattle.sql_meaning.specs.PlanLaws.{placed_by}
use Rattle.sql_meaning.specs.Paths.{walk}
use Rattle.sql_meaning.specs.Statements.{is_left, item_rows, table_of}
use Rattle.sql_value.specs.View.{plain_value}
use Rattle.schema_model.specs.PlainSchemas.{plain_database, plain_schema}
use Rattle.sql_bound.specs.Fits.{NamesExist}
use Rattle.sql_bound.specs.Naming.{IsPlaced}
use Rattle.sql_bound.specs.Statements.{bound_of, item_of, needs_of}
use Rattle.sql_bound.specs.declared.statement.Bound.{Bound as BorrowedBound}
use Rattle.sql_eval.specs.Environments.{placed}
use Rattle.sql_eval.specs.declared.environment.Place.{Place}
use Rattle.bound_rows.specs.Levels.{Marks, due_exprs, with_rows, level_rows}
use Rattle.bound_rows.specs.Places.{AllFit, assignments, held, empty_places}
use Rattle.bound_rows.specs.Readable.{lent_exprs}
use Rattle.bound_rows.proofs.Reading.{fits_readable, names_readable, tables_there}
use Rattle.bound_rows.proofs.Testing.{due_testable, empty_fit, empty_placed, flat_one, flat_last, table_there}
use Rattle.plan_form.specs.LoopRows.{walked_rows}
use Rattle.plan_form.specs.Plans.{loop_of, plan_of}
use Rattle.plan_form.specs.Seeks.{IsReadableForm, keys_form, walked_paths}
use Rattle.plan_form.proofs.FittingPaths.{item_below, item_there, paths_readable, paths_indexed}
use Rattle.plan_form.proofs.Forms.{walk_is_by_branches}
use Rattle.plan_form.proofs.PlanSteps.{loop_taken, placed_next}
use Rattle.plan_form.proofs.walks.plan_rows.Goals as goal

pub loop-number-init : goal.loop-number-init
loop-number-init c =
    let schema = plain_schema c.args.schema.now in
    let database = plain_database c.args.source.now.tables.now in
    let params = map plain_value c.args.source.now.params.now in
    let plan = plan_of c.args.plan.now in
    let bound = c.args.plan.now.bound.now in
    let items = bound.items.now in
    let consumed = consumed_by plan.loops in
    let one : held c.push.new.self.items ≡ empty_places items ∷ [] =
    ap held
    (c.in_ok-push.ensures.items ∙ ap (λ l. l ++ c.in_ok-start.start ∷ []) c.new-found.ensures.items)
    ∙ ap (λ s. s ∷ []) c.in_ok-start.ensures in
    let steps = steps_of schema database (bound_of bound) params consumed [] plan.loops in
    record {
      placed = c.no_bit_is_no_item.ensures;
      fit = subst (λ (l : List (List Place)). AllFit database (map item_of items) l) (sym one)
          (empty_fit database items, tt);
      found =
          ap (λ l. flat_map (nested steps) (assignments database l)) one
          ∙ flat_one (nested steps) (placed database (empty_places items))
          ∙ ap (nested steps) (empty_placed database items);
    }

pub level_of-requires-clause-item : goal.level_of-requires-clause-item
level_of-requires-clause-item c =
    item_there (plan_of c.args.plan.now).loops c.loop-number.number (loop_of c.loop_at-each.result)
    c.args.plan.now.bound.now.items.now c.loop_at-each.ensures c.requires.fits.plan_fits.once

pub run_loop-requires-clause-level : goal.run_loop-requires-clause-level
run_loop-requires-clause-level c =
    let loops = (plan_of c.args.plan.now).loops in
    let bound = c.args.plan.now.bound.now in
    let consumed = consumed_by loops in
    let n = c.loop-number.number in
    let each = loop_of c.loop_at-each.result in
    let placed = placed_by (take n loops) [] in
    let level = c.in_ok-level in
    let marks : Marks c.as_slice.result.now consumed =
    subst (λ (l : List Bool). Marks l consumed) (sym c.as_slice.ensures.value)
    c.in_ok-marks.ensures in
    due_testable (plain_database c.args.source.now.tables.now) level.level bound consumed placed
    each.item level.ensures.bound level.ensures.item
    (item_there loops n each bound.items.now c.loop_at-each.ensures
    c.requires.fits.plan_fits.once)
    (level.ensures.owned placed consumed c.loop-number.invariant.placed marks)
    (level.ensures.common placed consumed c.loop-number.invariant.placed marks)
    (fits_readable c.args.schema.now c.args.source.now.tables.now (bound_of bound)
    (needs_of bound) c.requires.fits.statement c.requires.conform).conjuncts

pub run_loop-requires-clause-outer : goal.run_loop-requires-clause-outer
run_loop-requires-clause-outer c =
    let database = plain_database c.args.source.now.tables.now in
    subst (λ (b : BorrowedBound). AllFit database (bound_of b).items (held c.as_slice-in-loop-number.result.now))
    (sym c.in_ok-level.ensures.bound)
    (subst
    (λ (l : List (List Place)). AllFit database (bound_of c.args.plan.now.bound.now).items l)
    (sym (ap held c.as_slice-in-loop-number.ensures.value)) c.loop-number.invariant.fit)

pub run_loop-requires-clause-readable : goal.run_loop-requires-clause-readable
run_loop-requires-clause-readable c =
    let schema = plain_schema c.args.schema.now in
    let database = plain_database c.args.source.now.tables.now in
    let plan = plan_of c.args.plan.now in
    let bound = c.args.plan.now.bound.now in
    let n = c.loop-number.number in
    let each = loop_of c.loop_at-each.result in
    let names =
    all_at
    (λ l. AllByRecursion (λ k. NamesExist schema (bound_of bound).items k.expr)
    (path_keys schema l.path)) plan.loops n each c.requires.fits.keys c.loop_at-each.ensures in
    subst
    (λ (b : BorrowedBound). AllByRecursion
    (λ path. IsReadableForm database (bound_of b).items (keys_form path))
    (walked_paths each.path)) (sym c.in_ok-level.ensures.bound)
    (paths_readable database (bound_of bound).items schema each.path
    (all_map _ _ (path_keys schema each.path)
    (λ k there. names_readable c.args.schema.now c.args.source.now.tables.now (bound_of bound)
    (needs_of bound) k.expr c.requires.fits.statement c.requires.conform there) names))

pub run_loop-requires-clause-indexes : goal.run_loop-requires-clause-indexes
run_loop-requires-clause-indexes c =
    let schema = plain_schema c.args.schema.now in
    let plan = plan_of c.args.plan.now in
    let bound = c.args.plan.now.bound.now in
    let n = c.loop-number.number in
    let each = loop_of c.loop_at-each.result in
    paths_indexed schema (table_of (Rattle.std.specs.List.slice_get (bound_of bound).items each.item))
    each.path
    (all_at (λ l. PathFits schema (bound_of bound) l.item l.path) plan.loops n each
    c.requires.fits.plan_fits.paths c.loop_at-each.ensures)

pub run_loop-requires-clause-table : goal.run_loop-requires-clause-table
run_loop-requires-clause-table c =
    let loops = (plan_of c.args.plan.now).loops in
    let bound = c.args.plan.now.bound.now in
    let each = loop_of c.loop_at-each.result in
    table_there (length c.args.source.now.tables.now) c.in_ok-level.level bound each.item
    c.in_ok-level.ensures.bound c.in_ok-level.ensures.item
    (item_there loops c.loop-number.number each bound.items.now c.loop_at-each.ensures
    c.requires.fits.plan_fits.once)
    (tables_there c.args.schema.now c.args.source.now.tables.now (bound_of bound)
    (needs_of bound) c.requires.fits.statement c.requires.conform)

pub loop-number-preserved : goal.loop-number-preserved
loop-number-preserved c =
    let schema = plain_schema c.args.schema.now in
    let database = plain_database c.args.source.now.tables.now in
    let params = map plain_value c.args.source.now.params.now in
    let plan = plan_of c.args.plan.now in
    let bound = c.args.plan.now.bound.now in
    let consumed = consumed_by plan.loops in
    let n = c.loop-number.number in
    let each = loop_of c.loop_at-each.result in
    let placed = placed_by (take n plan.loops) [] in
    let level = c.in_ok-level.level in
    let marks : Marks c.as_slice.result.now consumed =
    subst (λ (l : List Bool). Marks l consumed) (sym c.as_slice.ensures.value)
    c.in_ok-marks.ensures in
    let owned : lent_exprs level.owned.items
    ≡ due_exprs true consumed placed each.item 0 (bound_of bound).conjuncts =
    c.in_ok-level.ensures.owned placed consumed c.loop-number.invariant.placed marks in
    let shared : lent_exprs level.common.items
    ≡ due_exprs false consumed placed each.item 0 (bound_of bound).conjuncts =
    c.in_ok-level.ensures.common placed consumed c.loop-number.invariant.placed marks in
    let lists = held c.loop-number.found.items in
    let fits = all_at (λ l. PathFits schema (bound_of bound) l.item l.path) plan.loops n each
    c.requires.fits.plan_fits.paths c.loop_at-each.ensures in
    let seen : BorrowedBound → ℕ → List (List Place) → List Assignment = λ b m places.
    flat_map
    (λ env. with_rows params (lent_exprs level.common.items) m
    (level_rows (is_left (bound_of b) m) params (lent_exprs level.owned.items) m
    (map Some (walked_rows schema params each (item_rows database (bound_of b) m) env)) env) env)
    (assignments database places) in
    let found : assignments database (held c.in_ok-found.found.items)
    ≡ seen bound each.item lists =
    c.in_ok-found.ensures.found
    ∙ ap (λ b. seen b level.item (held c.as_slice-in-loop-number.result.now)) c.in_ok-level.ensures.bound
    ∙ ap (λ m. seen bound m (held c.as_slice-in-loop-number.result.now)) c.in_ok-level.ensures.item
    ∙ ap (λ l. seen bound each.item (held l)) c.as_slice-in-loop-number.ensures.value in
    let rows = item_rows database (bound_of bound) each.item in
    let walked : seen bound each.item lists
    ≡ flat_map
    (λ env. with_rows params (lent_exprs level.common.items) each.item
    (level_rows (is_left (bound_of bound) each.item) params (lent_exprs level.owned.items)
    each.item
    (map Some (directed_walk each.reverse (walk schema params each.path rows env))) env) env)
    (assignments database lists) =
    Rattle.list_laws.proofs.Lists.flat_map_same _ _ (assignments database lists)
    (λ env. ap
    (λ l. with_rows params (lent_exprs level.common.items) each.item
    (level_rows (is_left (bound_of bound) each.item) params (lent_exprs level.owned.items)
    each.item (map Some (directed_walk each.reverse l)) env) env)
    (walk_is_by_branches schema _ params each.path rows env fits)) in
    record {
      placed = subst (λ (is : List ℕ). IsPlaced c.with_item-placed.result is)
          (sym (placed_next plan.loops n each c.loop_at-each.ensures))
          (c.with_item-placed.ensures placed c.loop-number.invariant.placed);
      fit = subst
          (λ (b : BorrowedBound). AllFit database (bound_of b).items
          (held c.in_ok-found.found.items)) c.in_ok-level.ensures.bound
          c.in_ok-found.ensures.fit;
      found = loop_taken schema database (bound_of bound) params consumed plan.loops n each
          (lent_exprs level.owned.items) (lent_exprs level.common.items)
          (assignments database lists) _ _ c.loop_at-each.ensures owned shared
          (found ∙ walked) c.loop-number.invariant.found;
    }

pub returns-clause-found : goal.returns-clause-found
returns-clause-found c =
    let schema = plain_schema c.args.schema.now in
    let database = plain_database c.args.source.now.tables.now in
    let params = map plain_value c.args.source.now.params.now in
    let plan = plan_of c.args.plan.now in
    let bound = c.args.plan.now.bound.now in
    let consumed = consumed_by plan.loops in
    let n = c.loop-number.number in
    let past : length plan.loops ≤ n =
    let e : length plan.loops ≡ length c.args.plan.now.loops.now =
    length-map c.args.plan.now.loops.now _ in
    omega (arith, e) in
    let envs = assignments database (held c.loop-number.found.items) in
    sym (flat_last envs)
    ∙ ap
    (λ ls. flat_map
    (nested
    (steps_of schema database (bound_of bound) params consumed
    (placed_by (take n plan.loops) []) ls)) envs)
    (sym (Rattle.list_laws.proofs.Turns.past_end plan.loops n past))
    ∙ c.loop-number.invariant.found

pub with_item-placed-requires : goal.with_item-placed-requires
with_item-placed-requires c =
    let items = c.args.plan.now.bound.now.items.now in
    let below : _ < length (map item_of items) =
    item_below (plan_of c.args.plan.now).loops c.loop-number.number (length (map item_of items))
    (loop_of c.loop_at-each.result) c.loop_at-each.ensures c.requires.fits.plan_fits.once in
    let few : length (map item_of items) ≤ 64 = c.requires.fits.statement.few_items in
    omega (arith, below, few)
