use Rattle.std.proofs.Common.{arith}
use Rattle.list_laws.proofs.Orders.{Rises-not_below, Rises-above}
use Rattle.sql_meaning.specs.Rows.{site_value}
use Rattle.sql_meaning.specs.Walks.{key_stretch}
use Rattle.sql_meaning.proofs.Seeks.{column_cmp_total}
use Rattle.sql_value.specs.View.{plain_value}
use Rattle.index_lists.specs.Lent.{lent_rows}
use Rattle.path_walks.specs.Columns.{plain_sort_column}
use Rattle.path_walks.proofs.Lists.{seen_more}
use Rattle.path_walks.proofs.cuts.push_stretches.Goals as goal

pub stretch-piece-requires-clause-before : goal.stretch-piece-requires-clause-before
stretch-piece-requires-clause-before c =
    let column = plain_sort_column c.args.column in
    Rises-not_below (column_cmp_total column) (site_value column.site)
    (plain_value c.key-item.result.now) (lent_rows c.args.rows.now) c.requires

pub stretch-piece-requires-clause-past : goal.stretch-piece-requires-clause-past
stretch-piece-requires-clause-past c =
    let column = plain_sort_column c.args.column in
    Rises-above (column_cmp_total column) (site_value column.site)
    (plain_value c.key-item.result.now) (lent_rows c.args.rows.now) c.requires

pub loop-key-preserved : goal.loop-key-preserved
loop-key-preserved c =
    seen_more (λ rows. lent_rows rows.now)
    (λ key. key_stretch (plain_sort_column c.args.column) (plain_value key.now)
    (lent_rows c.args.rows.now))
    c.args.keys.now c.loop-key.key-index c.key-item.result _ _ c.stretch-piece.result _
    c.in_ok-push.ensures.ok c.loop-key.invariant (omega arith) c.key-item.is
    c.stretch-piece.ensures
