use Rattle.std.proofs.Common.{◌≡◌, ◌++◌, drop, map, not}
use Rattle.std.specs.List.{filter}
use Rattle.sql_meaning.specs.TermLists.{other_end, touches}
use Rattle.sql_bound.specs.Columns.{column_ref_of}
use Rattle.where_terms.specs.Views.{link_of}
use Rattle.where_terms.proofs.linked.visit.Given as goal

abbrev pub invariant-loop-link : goal.invariant-loop-link
invariant-loop-link l = record {
  to_visit : map column_ref_of l.next.items
      ++ map (other_end (column_ref_of l.c))
      (filter (touches (column_ref_of l.c)) (map link_of (drop l.link-index l.links)))
      ≡ map column_ref_of l.fn.next.items
      ++ map (other_end (column_ref_of l.c))
      (filter (touches (column_ref_of l.c)) (map link_of l.links));
  kept : map link_of l.left.items
      ++ filter (λ p. not (touches (column_ref_of l.c) p)) (map link_of (drop l.link-index l.links))
      ≡ map link_of l.fn.left.items
      ++ filter (λ p. not (touches (column_ref_of l.c) p)) (map link_of l.links);
}
