use Rattle.std.proofs.Common.{◌↔◌, drop}
use Rattle.std.specs.List.{AllByRecursion}
use Rattle.schema_model.specs.HeldRows.{IsHeldRow}
use Rattle.schema_model.specs.PlainSchemas.{plain_rows}
use Rattle.schema_model.proofs.conformity.are_held_rows.Given as goal

abbrev pub invariant-loop-row : goal.invariant-loop-row
invariant-loop-row l = AllByRecursion (IsHeldRow l.table) (plain_rows (drop l.row-index l.rows))
    ↔ AllByRecursion (IsHeldRow l.table) (plain_rows l.rows)
