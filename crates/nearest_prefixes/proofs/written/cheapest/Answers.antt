use Rattle.std.proofs.Common.{refl}
use Rattle.nearest_prefixes.proofs.LightestLoops.{best_first, best_more, best_last}
use Rattle.nearest_prefixes.proofs.written.cheapest.Goals as goal

pub loop-number-init : goal.loop-number-init
loop-number-init c = λ item ts e.
    best_first item c.args.offers.now _ ts _ c.requires.some refl e

pub returns : goal.returns
returns c = λ item ts e.
    best_last item c.args.offers.now ts c.loop-number.number c.loop-number.best e
    c.loop-number-test.false (c.loop-number.invariant item ts e)

pub loop-number-preserved : goal.loop-number-preserved
loop-number-preserved c = λ item ts e.
    best_more item c.args.offers.now _ ts c.loop-number.number c.loop-number.best _
    c.cheaper-best.result e c.loop-number-test.true refl c.cheaper-best.ensures
    (c.loop-number.invariant item ts e)
