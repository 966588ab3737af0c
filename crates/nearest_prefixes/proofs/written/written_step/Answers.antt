use Rattle.std.proofs.Common.{Option, sym, subst}
use Rattle.plan_choice.specs.Choice.{extended_by}
use Rattle.plan_choice.specs.Prefixes.{OfferedLoop, extended, offered_loops, placed_in}
use Rattle.access_paths.specs.Settings.{setting_of}
use Rattle.nearest_prefixes.specs.Growing.{Shows}
use Rattle.nearest_prefixes.specs.declared.prefix.Prefix.{Prefix as Shown}
use Rattle.nearest_prefixes.proofs.LightestLoops.{lightest_follows, some_offers}
use Rattle.nearest_prefixes.proofs.written.written_step.Goals as goal

pub cheapest-best-requires-clause-some : goal.cheapest-best-requires-clause-some
cheapest-best-requires-clause-some c =
    let comes = c.requires.comes in
    some_offers (setting_of c.args.setting.now) (placed_in comes.prefix) c.args.item
    c.in_ok-offers.offers.now (c.in_ok-offers.ensures.told comes.prefix comes.begins)

pub extended-made-requires-clause-stands : goal.extended-made-requires-clause-stands
extended-made-requires-clause-stands c =
    let s = setting_of c.args.setting.now in
    let comes = c.requires.comes in
    let p = comes.prefix in
    let best = lightest_follows s p c.args.item c.cheapest-best.result comes.comes comes.below
    (c.cheapest-best.ensures c.args.item (offered_loops s (placed_in p) c.args.item)
    (c.in_ok-offers.ensures.told p comes.begins)) in
    record {
      prefix = p;
      next = best.0;
      begins = comes.begins;
      follows = best.2;
      told = best.3;
    }

pub returns : goal.returns
returns c = λ p begins come.
    let s = setting_of c.args.setting.now in
    let best = lightest_follows s p c.args.item c.cheapest-best.result come
    c.requires.comes.below
    (c.cheapest-best.ensures c.args.item (offered_loops s (placed_in p) c.args.item)
    (c.in_ok-offers.ensures.told p begins)) in
    subst (λ (o : Option OfferedLoop). Shows s (extended_by s p o) c.in_ok-placed.placed.now)
    (sym best.1)
    (subst (λ (x : Shown). Shows s (extended s p best.0) x) (sym c.in_ok-placed.ensures)
    (c.extended-made.ensures p best.0 begins best.2 best.3))
