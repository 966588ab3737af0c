use Rattle.std.proofs.Common.{◌≡◌, ◌++◌, drop, map}
use Rattle.schema_model.specs.PlainSchemas.{plain_schema}
use Rattle.sql_meaning.specs.TermLists.{or_terms_from}
use Rattle.sql_bound.specs.Statements.{bound_of, conjunct_of}
use Rattle.where_terms.specs.Views.{or_term_of}
use Rattle.where_terms.proofs.ors.or_terms.Given as goal

abbrev pub invariant-loop-number : goal.invariant-loop-number
invariant-loop-number l =
    map or_term_of l.ors.items
    ++ or_terms_from (plain_schema l.schema) (bound_of l.bound) l.item l.number
    (drop l.number (map conjunct_of l.bound.conjuncts.now))
    ≡ or_terms_from (plain_schema l.schema) (bound_of l.bound) l.item 0
    (map conjunct_of l.bound.conjuncts.now)
