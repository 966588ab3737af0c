use Rattle.std.proofs.Common.{◌≡◌, ◌++◌, take, map}
use Rattle.sql_meaning.specs.Walks.{key_stretch}
use Rattle.sql_value.specs.View.{plain_value}
use Rattle.index_lists.specs.Lent.{lent_rows}
use Rattle.path_walks.specs.Columns.{plain_sort_column}
use Rattle.path_walks.specs.Seeks.{lent_lists}
use Rattle.path_walks.proofs.cuts.push_stretches.Given as goal

abbrev pub invariant-loop-key : goal.invariant-loop-key
invariant-loop-key l =
    lent_lists l.pieces.items
    ≡ lent_lists l.fn.pieces.items
    ++ map
    (λ key. key_stretch (plain_sort_column l.column) (plain_value key.now) (lent_rows l.rows))
    (take l.key-index l.keys)
