use Rattle.std.proofs.Common.{◌≡◌, ◌++◌, [], drop, map}
use Rattle.list_laws.specs.FirstComing.{keep_first}
use Rattle.plan_choice.specs.Scans.{same_column}
use Rattle.schema_model.specs.PlainSchemas.{plain_index_column}
use Rattle.statement_scans.proofs.FirstColumns.{columns_of}
use Rattle.statement_scans.proofs.columns.each_once.Given as goal

abbrev pub invariant-loop-column : goal.invariant-loop-column
invariant-loop-column l =
    map plain_index_column l.list
    ++ keep_first same_column (columns_of l.seen.keys)
    (map plain_index_column (drop l.column-index l.columns))
    ≡ keep_first same_column [] (map plain_index_column l.columns)
