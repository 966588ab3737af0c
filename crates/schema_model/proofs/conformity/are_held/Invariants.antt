use Rattle.std.proofs.Common.{◌↔◌, drop, map}
use Rattle.sql_value.specs.View.{plain_value}
use Rattle.schema_model.specs.HeldRows.{AreHeld}
use Rattle.schema_model.proofs.conformity.are_held.Given as goal

abbrev pub invariant-loop-number : goal.invariant-loop-number
invariant-loop-number l =
    AreHeld (drop l.number l.columns) (map plain_value (drop l.number l.values))
    ↔ AreHeld l.columns (map plain_value l.values)
