use Rattle.std.proofs.Common.{Bool, ap, ◌∙◌, sym, map}
use Rattle.sql_bound.specs.Columns.{site_of}
use Rattle.sql_meaning.specs.Choices.{terms_at}
use Rattle.where_terms.specs.Views.{column_terms_of}
use Rattle.plan_choice.specs.Offers.{without_bounds, served_terms}
use Rattle.access_paths.proofs.FoundColumns.{without_is}
use Rattle.access_paths.proofs.supply.terms_at.Goals as goal

pub returns-then-supply-clause-terms : goal.returns-then-supply-clause-terms
returns-then-supply-clause-terms c =
    let columns = map column_terms_of c.args.supply.now.columns.now in
    let site = site_of c.args.column in
    c.without_bounds.ensures.terms
    ∙ ap without_bounds c.terms_of_column-terms.ensures.terms
    ∙ sym (without_is site columns)
    ∙ ap (λ (b : Bool). terms_at site (served_terms b columns)) (sym c.if-supply.true)
