use Rattle.std.proofs.Common.{◌≡◌, ◌++◌, drop, map}
use Rattle.schema_model.specs.PlainSchemas.{plain_schema}
use Rattle.sql_bound.specs.Expressions.{expr_of}
use Rattle.sql_bound.specs.Statements.{item_of}
use Rattle.where_terms.specs.Views.{term_of}
use Rattle.sql_bound.specs.Columns.{column_ref_of}
use Rattle.where_terms.specs.Derived.{keys_along}
use Rattle.where_terms.proofs.derived.push_keys_along.Given as goal

abbrev pub invariant-loop-d : goal.invariant-loop-d
invariant-loop-d l =
    map term_of l.terms.items
    ++ keys_along (plain_schema l.schema) (map item_of l.items) (column_ref_of l.c)
    (map column_ref_of (drop l.d-index l.linked)) (expr_of l.expr)
    ≡ map term_of l.fn.terms.items
    ++ keys_along (plain_schema l.schema) (map item_of l.items) (column_ref_of l.c)
    (map column_ref_of l.linked) (expr_of l.expr)
