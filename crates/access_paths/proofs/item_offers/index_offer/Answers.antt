use Rattle.std.proofs.Common.{Bool, [], ◌∷◌, ap, sym, ◌∙◌, map, option_map}
use Rattle.where_terms.specs.Views.{column_terms_of}
use Rattle.plan_choice.specs.Offers.{seek_or_scan, seek_by}
use Rattle.access_paths.specs.Placed.{items_in}
use Rattle.access_paths.specs.Seeks.{seen_seek}
use Rattle.access_paths.specs.NextItems.{setting_for}
use Rattle.access_paths.specs.Offers.{SeenOffer}
use Rattle.access_paths.specs.Listed.{told_offers}
use Rattle.access_paths.proofs.ToldOffers.{index_told}
use Rattle.access_paths.proofs.item_offers.index_offer.Goals as goal

pub returns-in-Some : goal.returns-in-Some
returns-in-Some c =
    let next = c.args.next.now in
    let s = setting_for next in
    let placed = items_in next.placed in
    let seek = seek_by s placed next.item (map column_terms_of c.args.columns.now) c.args.index in
    ap (λ (o : SeenOffer). o ∷ []) c.priced.ensures
    ∙ index_told s placed next.item c.args.index c.is_covering-covering.result
    (seen_seek c.in-Some.seek) seek
    (sym (ap (option_map seen_seek) c.in-Some.is) ∙ c.in_ok-found.ensures.told)
    ∙ ap
    (λ (b : Bool). told_offers (seek_or_scan s placed next.item c.args.index b seek))
    c.is_covering-covering.ensures
