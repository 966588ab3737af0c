use Rattle.std.proofs.Common.{map, ap, ◌∙◌}
use Rattle.std.specs.List.{filter, flat_map}
use Rattle.schema_model.specs.PlainSchemas.{plain_schema}
use Rattle.sql_meaning.specs.Conjuncts.{may_serve}
use Rattle.sql_meaning.specs.LikeTerms.{like_terms}
use Rattle.sql_bound.specs.Expressions.{expr_of}
use Rattle.sql_bound.specs.Statements.{bound_of}
use Rattle.where_terms.specs.Views.{term_of}
use Rattle.where_terms.proofs.WholeLists.{likes_of_exprs, columns_same}
use Rattle.where_terms.proofs.statement.item_columns.Goals as goal

pub returns : goal.returns
returns c =
    let schema = plain_schema c.args.schema.now in
    let b = bound_of c.args.bound.now in
    c.in_ok-columns.ensures
    ∙ columns_same schema b.items c.args.item _ _ _ _ _ _
    (ap (map term_of) c.as_slice-2.ensures.value ∙ c.in_ok-own.ensures)
    (ap (map term_of) c.as_slice-3.ensures.value
    ∙ c.in_ok-likes.ensures
    ∙ ap (flat_map (like_terms schema b.items c.args.item))
    (ap (map (λ e. expr_of e.now)) c.as_slice.ensures.value ∙ c.in_ok-served.ensures)
    ∙ likes_of_exprs (like_terms schema b.items c.args.item)
    (filter (may_serve b c.args.item) b.conjuncts))
    (ap (map (λ e. expr_of e.now)) c.as_slice-4.ensures.value ∙ c.in_ok-list.ensures)
