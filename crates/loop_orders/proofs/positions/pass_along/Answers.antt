use Rattle.std.proofs.Common.{◌≡◌, ◌≤◌, false, true, ap, sym, ◌∙◌, subst, drop, add-one}
use Rattle.std.proofs.lemmas.List.{length-map, drop_all}
use Rattle.sql_meaning.specs.OrderState.{pass_position, index_positions}
use Rattle.schema_model.specs.PlainSchemas.{plain_index_column}
use Rattle.loop_orders.specs.Walks.{pass_all, passing_of, plain_columns, plain_parts, ties_along}
use Rattle.loop_orders.specs.Walks.{leaves}
use Rattle.loop_orders.proofs.Steps.{step_gives}
use Rattle.loop_orders.proofs.positions.pass_along.Goals as goal

pub returns-then-is_alias : goal.returns-then-is_alias
returns-then-is_alias c =
    step_gives c.args.walk.now (passing_of c.loop-number.left) c.loop-number.number
    (plain_index_column c.column_at-column.result) (passing_of c.pass_unless_lost-left.result) _
    c.is_held_at.result true c.column_at-column.ensures c.is_held_at.ensures
    (sym c.if-is_alias.true ∙ c.is_alias.ensures)
    (c.pass_unless_lost-left.ensures
    ∙ ap
    (pass_position c.args.walk.now.item (ties_along c.args.walk.now)
    (passing_of c.loop-number.left)) c.position_of_column-position.ensures)
    c.loop-number.invariant

pub loop-number-preserved : goal.loop-number-preserved
loop-number-preserved c =
    let w = c.args.walk.now in
    subst
    (λ m. pass_all w (passing_of c.pass_unless_lost-left.result)
    (index_positions w.alias (drop m (plain_columns w)) (drop m (plain_parts w)))
    ≡ pass_all w (leaves c.args.passing)
    (index_positions w.alias (plain_columns w) (plain_parts w)))
    (sym (add-one c.loop-number.number))
    (step_gives w (passing_of c.loop-number.left) c.loop-number.number
    (plain_index_column c.column_at-column.result) (passing_of c.pass_unless_lost-left.result) _
    c.is_held_at.result false c.column_at-column.ensures c.is_held_at.ensures
    (sym c.if-is_alias.false ∙ c.is_alias.ensures)
    (c.pass_unless_lost-left.ensures
    ∙ ap (pass_position w.item (ties_along w) (passing_of c.loop-number.left))
    c.position_of_column-position.ensures) c.loop-number.invariant)

pub returns : goal.returns
returns c =
    let w = c.args.walk.now in
    c.pass_unless_lost.ensures
    ∙ ap (pass_position w.item (ties_along w) (passing_of c.loop-number.left))
    c.rowid_position.ensures
    ∙ ap
    (λ cs. pass_all w (passing_of c.loop-number.left)
    (index_positions w.alias cs (drop c.loop-number.number (plain_parts w))))
    (sym
    (drop_all c.loop-number.number (plain_columns w)
    (subst (λ m. m ≤ c.loop-number.number) (sym (length-map w.columns.now _))
    c.loop-number-test.false)))
    ∙ c.loop-number.invariant
