use Rattle.std.proofs.Common.{◌≡◌, ◌++◌, drop, map}
use Rattle.sql_meaning.specs.TermLists.{of_kind}
use Rattle.where_terms.specs.Views.{term_of}
use Rattle.sql_bound.specs.Columns.{site_of}
use Rattle.where_terms.specs.Sorts.{test_of}
use Rattle.where_terms.proofs.gathering.push_sort.Given as goal

abbrev pub invariant-loop-term : goal.invariant-loop-term
invariant-loop-term l =
    map term_of l.terms.items
    ++ of_kind (test_of l.sort) (site_of l.column) (map term_of (drop l.term-index l.own))
    ≡ map term_of l.fn.terms.items
    ++ of_kind (test_of l.sort) (site_of l.column) (map term_of l.own)
