use Rattle.std.proofs.Common.{map, ap, ◌∙◌}
use Rattle.schema_model.specs.PlainSchemas.{plain_schema}
use Rattle.sql_bound.specs.Expressions.{expr_of}
use Rattle.sql_bound.specs.Statements.{item_of}
use Rattle.where_terms.specs.Views.{term_of, link_of}
use Rattle.where_terms.proofs.WholeLists.{listed_is}
use Rattle.where_terms.proofs.branches.columns.Goals as goal

pub returns : goal.returns
returns c =
    c.in_ok-columns.ensures
    ∙ listed_is (plain_schema c.args.schema.now) (map item_of c.args.bound.now.items.now)
    c.args.item (map term_of c.args.own.now) (map term_of c.args.likes.now)
    (map (λ e. expr_of e.now) c.args.list.now)
    (map (λ e. expr_of e.now) c.as_slice.result.now)
    (map link_of c.as_slice-2.result.now) c.width_of.result
    (ap (map (λ e. expr_of e.now)) c.as_slice.ensures.value ∙ c.in_ok-constants.ensures)
    (ap (map link_of) c.as_slice-2.ensures.value ∙ c.in_ok-links.ensures) c.width_of.ensures
