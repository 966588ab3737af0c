use Rattle.std.proofs.Common.{arith, map}
use Rattle.sql_meaning.specs.Walks.{key_stretch}
use Rattle.sql_value.specs.View.{plain_value}
use Rattle.index_lists.specs.Lent.{lent_rows}
use Rattle.path_walks.specs.Columns.{plain_sort_column}
use Rattle.path_walks.specs.Ordered.{FollowColumn}
use Rattle.path_walks.proofs.Lists.{flat_more, item_has}
use Rattle.path_walks.proofs.cuts.cut_by_column.Goals as goal

pub push_stretches-requires : goal.push_stretches-requires
push_stretches-requires c =
    item_has (FollowColumn (plain_sort_column c.args.column)) (λ rows. lent_rows rows.now)
    c.args.pieces.now c.loop-rows.rows-index c.rows-item.result c.requires (omega arith)
    c.rows-item.is

pub loop-rows-preserved : goal.loop-rows-preserved
loop-rows-preserved c =
    flat_more (λ rows. lent_rows rows.now)
    (λ rows. map (λ key. key_stretch (plain_sort_column c.args.column) (plain_value key.now) rows)
    c.args.keys.now)
    c.args.pieces.now c.loop-rows.rows-index c.rows-item.result _ _
    c.in_ok-push_stretches.ensures c.loop-rows.invariant (omega arith) c.rows-item.is
