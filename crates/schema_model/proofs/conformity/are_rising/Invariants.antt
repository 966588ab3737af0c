use Rattle.std.proofs.Common.{◌↔◌, drop, option_map}
use Rattle.sql_meaning.specs.Schemas.{RisingRows}
use Rattle.schema_model.specs.PlainSchemas.{plain_rows}
use Rattle.schema_model.proofs.RisingOrder.{RiseAfter}
use Rattle.schema_model.proofs.conformity.are_rising.Given as goal

abbrev pub invariant-loop-row : goal.invariant-loop-row
invariant-loop-row l =
    RiseAfter (option_map (λ before. before.now.rowid) l.last)
    (plain_rows (drop l.row-index l.rows)) ↔ RisingRows (plain_rows l.rows)
