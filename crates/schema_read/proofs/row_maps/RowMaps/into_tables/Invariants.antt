use Rattle.std.proofs.Common.{◌≡◌}
use Rattle.schema_model.specs.PlainSchemas.{plain_database}
use Rattle.schema_read.proofs.row_maps.RowMaps.into_tables.Given as goal

abbrev pub invariant-loop-rows : goal.invariant-loop-rows
invariant-loop-rows l = plain_database l.tables ≡ l.yielded
