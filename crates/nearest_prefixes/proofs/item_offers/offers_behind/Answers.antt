use Rattle.std.proofs.Common.{List, ap, ◌∙◌}
use Rattle.plan_choice.specs.Offers.{offers}
use Rattle.plan_choice.specs.Prefixes.{placed_in}
use Rattle.access_paths.specs.Settings.{setting_of}
use Rattle.access_paths.specs.declared.offer.Offer.{Offer}
use Rattle.nearest_prefixes.specs.Prefixes.{seen_loops}
use Rattle.nearest_prefixes.proofs.Standings.{numbered_told}
use Rattle.nearest_prefixes.proofs.item_offers.offers_behind.Goals as goal

pub returns-clause-told : goal.returns-clause-told
returns-clause-told c = λ p begins.
    ap (λ (xs : List Offer). seen_loops c.args.item xs) c.in_ok-made.ensures.made
    ∙ numbered_told c.args.item 0 c.in_ok-all.all.now
    (offers (setting_of c.args.setting.now) (placed_in p) c.args.item)
    (c.in_ok-all.ensures (placed_in p) (c.outer_loops-outer.ensures p begins).placed)
