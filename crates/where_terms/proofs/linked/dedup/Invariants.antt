use Rattle.std.proofs.Common.{◌≡◌, ◌++◌, ◌∷◌, drop, map}
use Rattle.std.specs.Ordering.{eq_by_cmp}
use Rattle.sql_meaning.specs.TermLists.{ref_cmp}
use Rattle.sql_bound.specs.Columns.{column_ref_of}
use Rattle.list_laws.specs.FirstComing.{dedup_behind}
use Rattle.where_terms.proofs.linked.dedup.Given as goal

abbrev pub invariant-loop-c : goal.invariant-loop-c
invariant-loop-c l =
    map column_ref_of l.kept.items
    ++ dedup_behind (eq_by_cmp ref_cmp) (column_ref_of l.last)
    (map column_ref_of (drop l.c-index l.rest))
    ≡ column_ref_of l.fn.first ∷ dedup_behind (eq_by_cmp ref_cmp) (column_ref_of l.fn.first)
    (map column_ref_of l.rest)
