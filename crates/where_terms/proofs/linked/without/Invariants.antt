use Rattle.std.proofs.Common.{◌≡◌, ◌++◌, drop, map, not}
use Rattle.std.specs.List.{filter}
use Rattle.sql_meaning.specs.TermLists.{same_ref}
use Rattle.sql_bound.specs.Columns.{column_ref_of}
use Rattle.where_terms.proofs.linked.without.Given as goal

abbrev pub invariant-loop-d : goal.invariant-loop-d
invariant-loop-d l =
    map column_ref_of l.others.items
    ++ filter (λ d. not (same_ref d (column_ref_of l.c)))
    (map column_ref_of (drop l.d-index l.list))
    ≡ filter (λ d. not (same_ref d (column_ref_of l.c))) (map column_ref_of l.list)
