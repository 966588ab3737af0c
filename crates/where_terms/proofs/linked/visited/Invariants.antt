use Rattle.std.proofs.Common.{◌≡◌, ◌++◌, ◌+◌, ◌-◌, [], map, length, reverse}
use Rattle.sql_meaning.specs.TermLists.{visits, visited}
use Rattle.sql_bound.specs.Columns.{column_ref_of}
use Rattle.where_terms.specs.Views.{link_of}
use Rattle.where_terms.proofs.linked.visited.Given as goal

abbrev pub invariant-loop-turn : goal.invariant-loop-turn
invariant-loop-turn l = record {
  none : l.left.items ≡ [];
  found : map column_ref_of l.found.items
      ++ visits (length l.links + 1 - l._turn) (reverse (map column_ref_of l.next.items))
      (reverse (map link_of l.open.items))
      ≡ visited (column_ref_of l.fn.c) (map link_of l.links);
}
