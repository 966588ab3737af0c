use Rattle.std.proofs.Common.{sym, ◌∙◌}
use Rattle.nearest_prefixes.proofs.LeftItems.{all_more, all_stops}
use Rattle.nearest_prefixes.proofs.coming.all_placed.Goals as goal

pub returns-then-not-is_placed : goal.returns-then-not-is_placed
returns-then-not-is_placed c = λ items is.
    all_stops c.loop-other.other c.args.item items _ c.loop-other-test.true
    (is.each c.loop-other.other ∙ sym c.is_placed.ensures ∙ c.if-not-is_placed.true)
    (c.loop-other.invariant items is)

pub loop-other-preserved : goal.loop-other-preserved
loop-other-preserved c = λ items is.
    all_more c.loop-other.other c.args.item items _ c.loop-other-test.true
    (is.each c.loop-other.other ∙ sym c.is_placed.ensures ∙ c.if-not-is_placed.false)
    (c.loop-other.invariant items is)
