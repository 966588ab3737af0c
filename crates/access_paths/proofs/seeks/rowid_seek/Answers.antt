use Rattle.std.proofs.Common.{◌≡◌, false, Some, ap, sym, ◌∙◌, option_map}
use Rattle.std.proofs.lemmas.Result.{IfOk-weaker}
use Rattle.sql_meaning.specs.Values.{Binary}
use Rattle.sql_meaning.specs.Choices.{rowid_offer, rowid_range}
use Rattle.where_terms.specs.Views.{term_of}
use Rattle.access_paths.specs.Placed.{items_in}
use Rattle.access_paths.specs.Seeks.{seen_seek, told_seek}
use Rattle.access_paths.specs.Supplies.{supplied, lent_term}
use Rattle.access_paths.proofs.RowidTerms.{rowid_is, rowid_between}
use Rattle.access_paths.proofs.seeks.rowid_seek.Goals as goal

pub returns-in-Some : goal.returns-in-Some
returns-in-Some c =
    let s = c.args.supply.now in
    ap Some c.in_ok-found.ensures
    ∙ ap (option_map (told_seek false))
    (sym
    (rowid_is (items_in s.placed) Binary (supplied s) (term_of c.in-Some.term.now)
    c.in-Some.ensures))

pub returns : goal.returns
returns c =
    let s = c.args.supply.now in
    let low = lent_term c.bounds_of.result.low in
    let high = lent_term c.bounds_of.result.high in
    IfOk-weaker c.rowid_range.result
    (λ found. option_map seen_seek found
    ≡ option_map (told_seek false) (rowid_range low high))
    (λ found. option_map seen_seek found
    ≡ option_map (told_seek false) (rowid_offer (items_in s.placed) (supplied s)))
    (λ found is. is
    ∙ ap (option_map (told_seek false))
    (sym
    (rowid_between (items_in s.placed) Binary (supplied s) low high c.in_default.ensures
    c.bounds_of.ensures.low c.bounds_of.ensures.high)))
    c.rowid_range.ensures
