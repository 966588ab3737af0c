use Rattle.std.proofs.Common.{◌≡◌, Some, drop, map}
use Rattle.plan_choice.specs.Scans.{key_columns}
use Rattle.schema_model.specs.PlainSchemas.{plain_index_column}
use Rattle.sql_bound.specs.Statements.{sort_key_of}
use Rattle.statement_scans.specs.Orders.{joined}
use Rattle.statement_scans.proofs.order.key_columns.Given as goal

abbrev pub invariant-loop-place : goal.invariant-loop-place
invariant-loop-place l =
    joined (Some (map plain_index_column l.list))
    (key_columns l.item (map sort_key_of (drop l.place l.keys)))
    ≡ key_columns l.item (map sort_key_of l.keys)
