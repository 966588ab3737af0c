use Rattle.std.proofs.Common.{◌≡◌, ◌+◌, drop, map}
use Rattle.schema_model.specs.PlainSchemas.{plain_index_column, plain_row}
use Rattle.stat_figures.specs.Changes.{shared_columns}
use Rattle.stat_figures.proofs.changes.shared.Given as goal

abbrev pub invariant-loop-number : goal.invariant-loop-number
invariant-loop-number l =
    l.number
    + shared_columns (map plain_index_column (drop l.number l.columns)) (plain_row l.left)
    (plain_row l.right)
    ≡ shared_columns (map plain_index_column l.columns) (plain_row l.left) (plain_row l.right)
