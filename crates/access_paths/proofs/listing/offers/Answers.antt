use Rattle.std.proofs.Common.{◌≡◌, ◌<◌, ◌^◌, ℕ, ap, ◌∙◌, map, arith}
use Rattle.plan_choice.specs.Offers as meant
use Rattle.access_paths.specs.Placed.{items_in}
use Rattle.access_paths.specs.Settings.{setting_of}
use Rattle.access_paths.specs.NextItems.{setting_for}
use Rattle.access_paths.specs.Offers.{seen_offer}
use Rattle.access_paths.specs.Listed.{told_offers}
use Rattle.access_paths.specs.declared.setting.Setting.{Setting}
use Rattle.access_paths.proofs.Placed.{items_are_placed}
use Rattle.access_paths.proofs.SameItems.{offers_of_placed}
use Rattle.access_paths.proofs.listing.offers.Goals as goal

pub next_item-next-requires-clause-due : goal.next_item-next-requires-clause-due
next_item-next-requires-clause-due c =
    let small : c.args.placed < 2 ^ 64 = omega (arith, c.ranges.placed) in
    c.as_slice.ensures
    ∙ c.in_ok-due.ensures (items_in c.args.placed) (items_are_placed c.args.placed small)

pub returns : goal.returns
returns c =
    λ items is.
    let small : c.args.placed < 2 ^ 64 = omega (arith, c.ranges.placed) in
    let next = c.next_item-next.result in
    let made : map seen_offer c.in_ok-made.made.now
    ≡ told_offers (meant.offers (setting_for next) (items_in next.placed) next.item) =
    c.in_ok-made.ensures in
    let s = setting_of c.args.setting.now in
    made
    ∙ ap
    (λ (t : Setting). told_offers (meant.offers (setting_of t) (items_in next.placed) next.item))
    c.next_item-next.ensures.setting
    ∙ ap (λ (item : ℕ). told_offers (meant.offers s (items_in next.placed) item))
    c.next_item-next.ensures.item
    ∙ ap (λ (mask : ℕ). told_offers (meant.offers s (items_in mask) c.args.item))
    c.next_item-next.ensures.placed
    ∙ ap told_offers
    (offers_of_placed s c.args.placed c.args.item (items_in c.args.placed) items
    (items_are_placed c.args.placed small) is)
