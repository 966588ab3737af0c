use Rattle.std.proofs.Common.{◌≡◌, map}
use Rattle.schema_model.specs.PlainSchemas.{plain_rows}
use Rattle.schema_read.specs.Rows.{row_of_entry}
use Rattle.schema_read.proofs.row_maps.RowMap.into_list.Given as goal

abbrev pub invariant-loop-rowid : goal.invariant-loop-rowid
invariant-loop-rowid l = plain_rows l.rows ≡ map row_of_entry l.yielded
