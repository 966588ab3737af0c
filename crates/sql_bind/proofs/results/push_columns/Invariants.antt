use Rattle.std.proofs.Common.{◌≡◌, ◌++◌, map}
use Rattle.std.specs.List.{range_with_len}
use Rattle.sql_bind.specs.Results.{column_at}
use Rattle.sql_bind.specs.Views.{results_seen}
use Rattle.sql_bind.proofs.results.push_columns.Given as goal

abbrev pub invariant-loop-column : goal.invariant-loop-column
invariant-loop-column l =
    results_seen l.results.items
    ≡ results_seen l.fn.results.items
    ++ map (column_at l.scope l.item) (range_with_len 0 l.column)
