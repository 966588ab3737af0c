use Rattle.std.proofs.Common.{◌≡◌, ◌++◌, drop, map}
use Rattle.std.specs.List.{filter}
use Rattle.sql_bound.specs.Expressions.{expr_of}
use Rattle.where_terms.specs.Derived.{has_constant}
use Rattle.where_terms.proofs.derived.constants.Given as goal

abbrev pub invariant-loop-expr : goal.invariant-loop-expr
invariant-loop-expr l =
    map (λ e. expr_of e.now) l.kept.items
    ++ filter has_constant (map (λ e. expr_of e.now) (drop l.expr-index l.list))
    ≡ filter has_constant (map (λ e. expr_of e.now) l.list)
