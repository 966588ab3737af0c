use Rattle.std.proofs.Common.{◌≡◌, ◌++◌, drop, map}
use Rattle.std.specs.List.{filter}
use Rattle.sql_meaning.specs.Statements.{exprs_of}
use Rattle.sql_bound.specs.Expressions.{expr_of}
use Rattle.sql_bound.specs.Statements.{bound_of, conjunct_of}
use Rattle.where_terms.specs.Listed.{may_help}
use Rattle.where_terms.proofs.statement.helping.Given as goal

abbrev pub invariant-loop-number : goal.invariant-loop-number
invariant-loop-number l =
    map (λ e. expr_of e.now) l.list.items
    ++ exprs_of
    (filter (may_help l.derives (bound_of l.bound) l.item)
    (drop l.number (map conjunct_of l.bound.conjuncts.now)))
    ≡ exprs_of
    (filter (may_help l.derives (bound_of l.bound) l.item) (map conjunct_of l.bound.conjuncts.now))
