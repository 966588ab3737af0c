use Rattle.std.proofs.Common.{◌++◌, List, false, refl, ap, ◌∙◌, map}
use Rattle.std.specs.List.{flat_map}
use Rattle.sql_meaning.specs.Choices.{rowid_offer}
use Rattle.sql_meaning.specs.Paths.{TableScan}
use Rattle.plan_choice.specs.Offers as meant
use Rattle.where_terms.specs.Views.{or_term_of, item_terms_of, column_terms_of}
use Rattle.access_paths.specs.Placed.{items_in}
use Rattle.access_paths.specs.NextItems.{setting_for}
use Rattle.access_paths.specs.Offers.{SeenOffer, seen_offer, told_offer}
use Rattle.access_paths.specs.Listed.{told_offers, told_index, told_union}
use Rattle.access_paths.proofs.ToldOffers.{all_told}
use Rattle.access_paths.proofs.listing.offers_by.Goals as goal

pub returns : goal.returns
returns c =
    let next = c.args.next.now in
    let s = setting_for next in
    let placed = items_in next.placed in
    let columns = map column_terms_of c.args.terms.columns.now in
    let scan = told_offer (meant.scan_by s placed next.item TableScan false) in
    let rowids = told_offers (meant.rowid_offers s placed next.item (rowid_offer placed columns)) in
    let by_index = flat_map (told_index s placed next.item columns) next.indexes.now in
    let unions = flat_map (told_union s placed next.item) (map or_term_of c.args.terms.ors.now) in
    ap (map seen_offer) c.into_bump_slice.ensures
    ∙ c.in_ok-push_unions.ensures
    ∙ ap (λ (l : List SeenOffer). l ++ unions) c.in_ok-push_indexes.ensures
    ∙ ap (λ (l : List SeenOffer). (l ++ by_index) ++ unions) c.in_ok-made.ensures
    ∙ all_told s placed next.item scan rowids by_index unions (item_terms_of c.args.terms)
    c.requires.terms refl refl
    (ap (flat_map (told_index s placed next.item columns)) c.requires.next.indexes) refl
