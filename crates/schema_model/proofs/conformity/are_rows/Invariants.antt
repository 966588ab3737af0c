use Rattle.std.proofs.Common.{◌↔◌, drop}
use Rattle.schema_model.specs.HeldRows.{AreRows}
use Rattle.schema_model.specs.PlainSchemas.{plain_database}
use Rattle.schema_model.proofs.conformity.are_rows.Given as goal

abbrev pub invariant-loop-number : goal.invariant-loop-number
invariant-loop-number l =
    AreRows (drop l.number l.tables) (plain_database (drop l.number l.lists))
    ↔ AreRows l.tables (plain_database l.lists)
