use Rattle.std.proofs.Common.{◌≡◌, ◌++◌, drop, map}
use Rattle.schema_model.specs.PlainSchemas.{plain_schema}
use Rattle.sql_bound.specs.Expressions.{expr_of}
use Rattle.sql_bound.specs.Statements.{item_of}
use Rattle.where_terms.specs.Views.{term_of}
use Rattle.sql_bound.specs.Columns.{column_ref_of}
use Rattle.where_terms.specs.Derived.{linked_keys}
use Rattle.where_terms.proofs.derived.push_keys.Given as goal

abbrev pub invariant-loop-expr : goal.invariant-loop-expr
invariant-loop-expr l =
    map term_of l.terms.items
    ++ linked_keys (plain_schema l.schema) (map item_of l.items) (column_ref_of l.c)
    (map column_ref_of l.linked)
    (map (λ e. expr_of e.now) (drop l.expr-index l.list))
    ≡ map term_of l.fn.terms.items
    ++ linked_keys (plain_schema l.schema) (map item_of l.items) (column_ref_of l.c)
    (map column_ref_of l.linked)
    (map (λ e. expr_of e.now) l.list)
