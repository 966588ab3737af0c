use Rattle.std.proofs.Common.{◌≡◌, take, map}
use Rattle.std.specs.List.{flat_map}
use Rattle.sql_meaning.specs.Walks.{key_stretch}
use Rattle.sql_value.specs.View.{plain_value}
use Rattle.path_walks.specs.Columns.{plain_sort_column}
use Rattle.path_walks.specs.Seeks.{lent_lists}
use Rattle.path_walks.proofs.cuts.cut_by_column.Given as goal

abbrev pub invariant-loop-rows : goal.invariant-loop-rows
invariant-loop-rows l =
    lent_lists l.cut.items
    ≡ flat_map
    (λ rows. map (λ key. key_stretch (plain_sort_column l.column) (plain_value key.now) rows)
    l.keys) (lent_lists (take l.rows-index l.pieces))
