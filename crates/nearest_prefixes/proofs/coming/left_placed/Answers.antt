use Rattle.std.proofs.Common.{sym, ◌∙◌}
use Rattle.sql_meaning.specs.Statements.{is_left}
use Rattle.sql_bound.specs.Naming.{has_item}
use Rattle.sql_bound.specs.Statements.{bound_of}
use Rattle.nearest_prefixes.proofs.LeftItems.{some_more, some_stops}
use Rattle.nearest_prefixes.proofs.coming.left_placed.Goals as goal

pub returns-then-not-is_settled : goal.returns-then-not-is_settled
returns-then-not-is_settled c = λ items is.
    some_stops (is_left (bound_of c.args.bound.now)) c.loop-other.other c.args.item items
    (has_item c.args.placed c.loop-other.other) _ c.loop-other-test.true
    (is.each c.loop-other.other) (sym c.is_settled.ensures ∙ c.if-not-is_settled.true)
    (c.loop-other.invariant items is)

pub loop-other-preserved : goal.loop-other-preserved
loop-other-preserved c = λ items is.
    some_more (is_left (bound_of c.args.bound.now)) c.loop-other.other c.args.item items
    (has_item c.args.placed c.loop-other.other) _ c.loop-other-test.true
    (is.each c.loop-other.other) (sym c.is_settled.ensures ∙ c.if-not-is_settled.false)
    (c.loop-other.invariant items is)
