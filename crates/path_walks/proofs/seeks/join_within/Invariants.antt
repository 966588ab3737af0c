use Rattle.std.proofs.Common.{◌≡◌, take}
use Rattle.std.specs.Option.{option_map}
use Rattle.std.specs.List.{flat_map}
use Rattle.index_lists.specs.Lent.{lent_rows}
use Rattle.path_walks.specs.Columns.{plain_sort_column}
use Rattle.path_walks.specs.Ends.{plain_end}
use Rattle.path_walks.specs.Seeks.{rows_within, lent_lists}
use Rattle.path_walks.proofs.seeks.join_within.Given as goal

abbrev pub invariant-loop-rows : goal.invariant-loop-rows
invariant-loop-rows l =
    lent_rows l.list.items
    ≡ flat_map (rows_within (option_map plain_sort_column l.column) (plain_end l.low)
    (plain_end l.high)) (lent_lists (take l.rows-index l.pieces))
