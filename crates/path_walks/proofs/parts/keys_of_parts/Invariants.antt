use Rattle.std.proofs.Common.{◌≡◌, ◌++◌, map, drop, length}
use Rattle.path_walks.specs.Columns.{plain_sort_column}
use Rattle.path_walks.specs.Keys.{keys_for, lent_keys}
use Rattle.path_walks.specs.Parts.{plain_part}
use Rattle.path_walks.proofs.parts.keys_of_parts.Given as goal

abbrev pub invariant-loop-number : goal.invariant-loop-number
invariant-loop-number l = record {
  counted : length l.keys.items ≡ l.number;
  keys : lent_keys l.keys.items
      ++ keys_for (drop l.number (map plain_sort_column l.columns))
      (map plain_part (drop l.number l.parts))
      ≡ keys_for (map plain_sort_column l.columns) (map plain_part l.parts);
}
