use Rattle.std.proofs.Common.{◌≡◌, ◌++◌, flat_map}
use Rattle.std.specs.List.{range_with_len}
use Rattle.sql_bind.specs.Results.{item_columns}
use Rattle.sql_bind.specs.Views.{results_seen}
use Rattle.sql_bind.proofs.results.push_all_columns.Given as goal

abbrev pub invariant-loop-item : goal.invariant-loop-item
invariant-loop-item l =
    results_seen l.results.items
    ≡ results_seen l.fn.results.items ++ flat_map (item_columns l.scope) (range_with_len 0 l.item)
