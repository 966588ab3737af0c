use Rattle.std.proofs.Common.{◌≡◌, ◌<◌, ◌≤◌, ◌-◌, ◌++◌, ◌∷◌, [], ℕ, List, arith, ap, ◌∙◌, sym, subst, map, length}
use Rattle.std.proofs.Common.{true, false, Some}
use Rattle.std.specs.List.{flat_map}
use Rattle.std.proofs.lemmas.List.{length-map}
use Rattle.list_laws.specs.Nest.{nested}
use Rattle.sql_meaning.specs.Rows.{Assignment}
use Rattle.sql_meaning.specs.Statements.{is_left, item_rows, numbers_from}
use Rattle.sql_value.specs.View.{plain_value}
use Rattle.schema_model.specs.PlainSchemas.{plain_database}
use Rattle.sql_bound.specs.Naming.{IsPlaced}
use Rattle.sql_bound.specs.Statements.{bound_of, item_of}
use Rattle.sql_bound.specs.declared.statement.Bound.{Bound as BorrowedBound}
use Rattle.sql_eval.specs.Environments.{placed}
use Rattle.sql_eval.specs.declared.environment.Place.{Place}
use Rattle.bound_rows.specs.Levels.{due_exprs, items_before, item_steps, with_rows, level_rows}
use Rattle.bound_rows.specs.Places.{AllFit, assignments, held, empty_places}
use Rattle.bound_rows.specs.Readable.{lent_exprs}
use Rattle.bound_rows.proofs.Testing.{due_testable, empty_fit, empty_placed, flat_one, flat_last, item_taken}
use Rattle.bound_rows.proofs.Testing.{before_next, table_there, no_marks}
use Rattle.bound_rows.proofs.filter.all_rows.Goals as goal

pub loop-number-init : goal.loop-number-init
loop-number-init c =
    let database = plain_database c.args.source.now.tables.now in
    let params = map plain_value c.args.source.now.params.now in
    let bound = c.args.bound.now in
    let items = bound.items.now in
    let total = length (map item_of items) in
    let one : held c.push.new.self.items ≡ empty_places items ∷ [] =
    ap held
    (c.in_ok-push.ensures.items ∙ ap (λ l. l ++ c.in_ok-start.start ∷ []) c.new-found.ensures.items)
    ∙ ap (λ s. s ∷ []) c.in_ok-start.ensures in
    let whole : total - 0 ≡ total = omega arith in
    let steps : ℕ → List _ = λ k. item_steps database (bound_of bound) params [] (numbers_from 0 k) in
    record {
      placed = c.no_bit_is_no_item.ensures;
      fit = subst (λ (l : List (List Place)). AllFit database (map item_of items) l) (sym one)
          (empty_fit database items, tt);
      found = λ owners.
          ap (λ l. flat_map (nested (steps (total - 0))) (assignments database l)) one
          ∙ ap (λ k. flat_map (nested (steps k)) (placed database (empty_places items) ∷ [])) whole
          ∙ flat_one (nested (steps total)) (placed database (empty_places items))
          ∙ ap (nested (steps total)) (empty_placed database items);
    }

pub with_each_row-requires-clause-level : goal.with_each_row-requires-clause-level
with_each_row-requires-clause-level c =
    let bound = c.args.bound.now in
    let n = c.loop-number.number in
    let level = c.in_ok-level in
    due_testable (plain_database c.args.source.now.tables.now) level.level bound [] (items_before n) n
    level.ensures.bound level.ensures.item (omega arith)
    (level.ensures.owned (items_before n) [] c.loop-number.invariant.placed no_marks)
    (level.ensures.common (items_before n) [] c.loop-number.invariant.placed no_marks)
    c.requires.readable.conjuncts

pub with_each_row-requires-clause-lists : goal.with_each_row-requires-clause-lists
with_each_row-requires-clause-lists c =
    let database = plain_database c.args.source.now.tables.now in
    subst (λ (b : BorrowedBound). AllFit database (bound_of b).items (held c.as_slice.result.now))
    (sym c.in_ok-level.ensures.bound)
    (subst
    (λ (l : List (List Place)). AllFit database (bound_of c.args.bound.now).items l)
    (sym (ap held c.as_slice.ensures.value)) c.loop-number.invariant.fit)

pub with_each_row-requires-clause-table : goal.with_each_row-requires-clause-table
with_each_row-requires-clause-table c =
    let below : c.loop-number.number < length c.args.bound.now.items.now = omega arith in
    table_there (length c.args.source.now.tables.now) c.in_ok-level.level c.args.bound.now
    c.loop-number.number c.in_ok-level.ensures.bound c.in_ok-level.ensures.item below
    c.requires.tables

pub loop-number-preserved : goal.loop-number-preserved
loop-number-preserved c =
    let database = plain_database c.args.source.now.tables.now in
    let params = map plain_value c.args.source.now.params.now in
    let bound = c.args.bound.now in
    let items = bound.items.now in
    let total = length (map item_of items) in
    let n = c.loop-number.number in
    let level = c.in_ok-level.level in
    let below : n < length items = omega arith in
    let owned : lent_exprs level.owned.items
    ≡ due_exprs true [] (items_before n) n 0 (bound_of bound).conjuncts =
    c.in_ok-level.ensures.owned (items_before n) [] c.loop-number.invariant.placed no_marks in
    let shared : lent_exprs level.common.items
    ≡ due_exprs false [] (items_before n) n 0 (bound_of bound).conjuncts =
    c.in_ok-level.ensures.common (items_before n) [] c.loop-number.invariant.placed no_marks in
    let seen : BorrowedBound → ℕ → List (List Place) → List Assignment = λ b m lists.
    flat_map
    (λ env. with_rows params (lent_exprs level.common.items) m
    (level_rows (is_left (bound_of b) m) params (lent_exprs level.owned.items) m
    (map Some (item_rows database (bound_of b) m)) env) env) (assignments database lists) in
    let lists = held c.loop-number.found.items in
    let found : assignments database (held c.in_ok-found.found.items) ≡ seen bound n lists =
    c.in_ok-found.ensures.found
    ∙ ap (λ b. seen b level.item (held c.as_slice.result.now)) c.in_ok-level.ensures.bound
    ∙ ap (λ m. seen bound m (held c.as_slice.result.now)) c.in_ok-level.ensures.item
    ∙ ap (λ l. seen bound n (held l)) c.as_slice.ensures.value in
    record {
      placed = subst (λ (is : List ℕ). IsPlaced c.with_item-placed.result is)
          (sym (before_next n))
          (c.with_item-placed.ensures (items_before n) c.loop-number.invariant.placed);
      fit = subst
          (λ (b : BorrowedBound). AllFit database (bound_of b).items
          (held c.in_ok-found.found.items)) c.in_ok-level.ensures.bound
          c.in_ok-found.ensures.fit;
      found = λ owners.
          item_taken database (bound_of bound) params n total (lent_exprs level.owned.items)
          (lent_exprs level.common.items) (assignments database lists) _ _ owners
          (subst (λ (k : ℕ). n < k) (sym (length-map items item_of)) below) owned shared found
          (c.loop-number.invariant.found owners);
    }

pub returns-clause-found : goal.returns-clause-found
returns-clause-found c = λ owners.
    let database = plain_database c.args.source.now.tables.now in
    let params = map plain_value c.args.source.now.params.now in
    let bound = c.args.bound.now in
    let items = bound.items.now in
    let total = length (map item_of items) in
    let n = c.loop-number.number in
    let past : length items ≤ n = omega arith in
    let none : total - n ≡ 0 =
    let e : total ≡ length items = length-map items item_of in omega (arith, past, e) in
    let envs = assignments database (held c.loop-number.found.items) in
    sym (flat_last envs)
    ∙ ap
    (λ k. flat_map
    (nested (item_steps database (bound_of bound) params (items_before n) (numbers_from n k))) envs)
    (sym none)
    ∙ c.loop-number.invariant.found owners
