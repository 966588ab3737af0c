use Rattle.std.proofs.Common.{◌≡◌, ◌++◌, drop, map}
use Rattle.std.specs.List.{flat_map}
use Rattle.sql_meaning.specs.LikeTerms.{like_terms}
use Rattle.schema_model.specs.PlainSchemas.{plain_schema}
use Rattle.sql_bound.specs.Expressions.{expr_of}
use Rattle.sql_bound.specs.Statements.{item_of}
use Rattle.where_terms.specs.Views.{term_of}
use Rattle.where_terms.proofs.likes.like_terms.Given as goal

abbrev pub invariant-loop-expr : goal.invariant-loop-expr
invariant-loop-expr l =
    map term_of l.terms.items
    ++ flat_map (like_terms (plain_schema l.schema) (map item_of l.items) l.item)
    (map (λ e. expr_of e.now) (drop l.expr-index l.list))
    ≡ flat_map (like_terms (plain_schema l.schema) (map item_of l.items) l.item)
    (map (λ e. expr_of e.now) l.list)
