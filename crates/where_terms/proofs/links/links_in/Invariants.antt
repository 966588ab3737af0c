use Rattle.std.proofs.Common.{◌≡◌, ◌++◌, drop, map}
use Rattle.sql_meaning.specs.TermLists.{link_pairs}
use Rattle.schema_model.specs.PlainSchemas.{plain_schema}
use Rattle.sql_bound.specs.Expressions.{expr_of}
use Rattle.sql_bound.specs.Statements.{item_of}
use Rattle.where_terms.specs.Views.{link_of}
use Rattle.where_terms.proofs.links.links_in.Given as goal

abbrev pub invariant-loop-expr : goal.invariant-loop-expr
invariant-loop-expr l =
    map link_of l.links.items
    ++ link_pairs (plain_schema l.schema) (map item_of l.items)
    (map (λ e. expr_of e.now) (drop l.expr-index l.list))
    ≡ link_pairs (plain_schema l.schema) (map item_of l.items) (map (λ e. expr_of e.now) l.list)
