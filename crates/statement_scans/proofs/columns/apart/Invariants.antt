use Rattle.std.proofs.Common.{◌≡◌, ◌++◌, drop, map}
use Rattle.schema_model.specs.PlainSchemas.{plain_index_column}
use Rattle.statement_scans.specs.Asked.{without}
use Rattle.statement_scans.proofs.columns.apart.Given as goal

abbrev pub invariant-loop-column : goal.invariant-loop-column
invariant-loop-column l =
    map plain_index_column l.list
    ++ without l.numbers.keys (map plain_index_column (drop l.column-index l.columns))
    ≡ without l.numbers.keys (map plain_index_column l.columns)
