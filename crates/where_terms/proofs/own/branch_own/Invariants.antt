use Rattle.std.proofs.Common.{◌≡◌, ◌++◌, drop, map}
use Rattle.sql_meaning.specs.TermLists.{branch_own}
use Rattle.schema_model.specs.PlainSchemas.{plain_schema}
use Rattle.sql_bound.specs.Expressions.{expr_of}
use Rattle.sql_bound.specs.Statements.{bound_of}
use Rattle.where_terms.specs.Views.{term_of}
use Rattle.where_terms.proofs.own.branch_own.Given as goal

abbrev pub invariant-loop-expr : goal.invariant-loop-expr
invariant-loop-expr l =
    map term_of l.terms.items
    ++ branch_own (plain_schema l.schema) (bound_of l.bound) l.item l.number
    (map (λ e. expr_of e.now) (drop l.expr-index l.list))
    ≡ branch_own (plain_schema l.schema) (bound_of l.bound) l.item l.number
    (map (λ e. expr_of e.now) l.list)
