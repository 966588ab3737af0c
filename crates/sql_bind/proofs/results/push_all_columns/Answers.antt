use Rattle.sql_bind.specs.Results.{item_columns}
use Rattle.sql_bind.specs.Views.{results_seen}
use Rattle.sql_bind.proofs.Ranges.{joined_more}
use Rattle.sql_bind.proofs.results.push_all_columns.Goals as goal

pub loop-item-preserved : goal.loop-item-preserved
loop-item-preserved c =
    joined_more (item_columns c.args.scope.now) c.loop-item.item
    (results_seen c.args.results.now.items) (results_seen c.loop-item.results.items) _
    c.loop-item.invariant c.in_ok-push_columns.ensures
