use Rattle.std.proofs.Common.{arith}
use Rattle.std.specs.Option.{option_map}
use Rattle.index_lists.specs.Lent.{lent_rows}
use Rattle.path_walks.specs.Columns.{plain_sort_column}
use Rattle.path_walks.specs.Ordered.{FollowNext}
use Rattle.path_walks.proofs.Lists.{item_has}
use Rattle.path_walks.proofs.seeks.join_within.Goals as goal

pub within-requires : goal.within-requires
within-requires c =
    item_has (FollowNext (option_map plain_sort_column c.args.column)) (λ rows. lent_rows rows.now)
    c.args.pieces.now c.loop-rows.rows-index c.rows-item.result c.requires (omega arith)
    c.rows-item.is
