use Rattle.std.proofs.Common.{◌≡◌, ◌<◌, ◌≤◌, ◌||◌, suc, ap, sym, ◌∙◌, subst, drop, add-one}
use Rattle.std.proofs.lemmas.List.{length-map, drop_all}
use Rattle.sql_meaning.specs.OrderState.{part_held}
use Rattle.sql_value.specs.View.{plain_collation}
use Rattle.sql_bound.specs.Columns.{site_of}
use Rattle.loop_orders.specs.Walks.{plain_columns, plain_parts}
use Rattle.loop_orders.proofs.Steps.{held_step, none_held}
use Rattle.loop_orders.proofs.held.is_held.Goals as goal

pub returns-then-part_holds : goal.returns-then-part_holds
returns-then-part_holds c =
    let w = c.args.walk.now in
    let n = c.loop-number.number in
    ap
    (λ b. b
    || part_held w.alias (drop (suc n) (plain_columns w)) (drop (suc n) (plain_parts w))
    (site_of c.args.column) (plain_collation c.args.coll))
    (sym c.if-part_holds.true ∙ c.part_holds.ensures)
    ∙ sym
    (held_step w.alias (plain_columns w) (plain_parts w) n (site_of c.args.column)
    (plain_collation c.args.coll)
    (subst (λ m. n < m) (sym (length-map w.parts.now _)) c.loop-number-test.true))
    ∙ c.loop-number.invariant

pub loop-number-preserved : goal.loop-number-preserved
loop-number-preserved c =
    let w = c.args.walk.now in
    let n = c.loop-number.number in
    subst
    (λ m. part_held w.alias (drop m (plain_columns w)) (drop m (plain_parts w))
    (site_of c.args.column) (plain_collation c.args.coll)
    ≡ part_held w.alias (plain_columns w) (plain_parts w) (site_of c.args.column)
    (plain_collation c.args.coll)) (sym (add-one n))
    (sym
    (held_step w.alias (plain_columns w) (plain_parts w) n (site_of c.args.column)
    (plain_collation c.args.coll)
    (subst (λ m. n < m) (sym (length-map w.parts.now _)) c.loop-number-test.true)
    ∙ ap
    (λ b. b
    || part_held w.alias (drop (suc n) (plain_columns w)) (drop (suc n) (plain_parts w))
    (site_of c.args.column) (plain_collation c.args.coll))
    (sym c.part_holds.ensures ∙ c.if-part_holds.false))
    ∙ c.loop-number.invariant)

pub returns : goal.returns
returns c =
    let w = c.args.walk.now in
    sym
    (none_held w.alias (drop c.loop-number.number (plain_columns w)) (site_of c.args.column)
    (plain_collation c.args.coll))
    ∙ ap
    (λ ps. part_held w.alias (drop c.loop-number.number (plain_columns w)) ps
    (site_of c.args.column) (plain_collation c.args.coll))
    (sym
    (drop_all c.loop-number.number (plain_parts w)
    (subst (λ m. m ≤ c.loop-number.number) (sym (length-map w.parts.now _))
    c.loop-number-test.false)))
    ∙ c.loop-number.invariant
