use Rattle.std.proofs.Common.{◌≡◌, map, drop}
use Rattle.std.specs.Prelude.{Option}
use Rattle.std.specs.List.{AllByRecursion, flat_map}
use Rattle.sql_meaning.specs.Walks as walks
use Rattle.index_lists.specs.Lent.{lent_rows}
use Rattle.path_walks.specs.Columns.{plain_sort_column}
use Rattle.path_walks.specs.Ordered.{AreEntries}
use Rattle.path_walks.specs.Seeks.{seek_keys, lent_lists}
use Rattle.path_walks.specs.Keys.{lent_keys}
use Rattle.path_walks.proofs.cuts.cut_by_columns.Given as goal

abbrev pub invariant-loop-number : goal.invariant-loop-number
invariant-loop-number l = record {
  ordered : AllByRecursion (AreEntries (drop l.number (map plain_sort_column l.columns)))
      (lent_lists l.pieces.items);
  pieces : (low high : Option walks.End)
      → flat_map
      (seek_keys (drop l.number (map plain_sort_column l.columns))
      (lent_keys (drop l.number l.keys)) low high) (lent_lists l.pieces.items)
      ≡ seek_keys (map plain_sort_column l.columns) (lent_keys l.keys) low high
      (lent_rows l.rows);
}
