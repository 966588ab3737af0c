use Rattle.std.proofs.Common.{◌≡◌, drop}
use Rattle.std.specs.List.{list_any}
use Rattle.sql_meaning.specs.Truth.{front_digits, is_nonzero}
use Rattle.sql_value.proofs.condition.has_nonzero.Given as goal

abbrev pub invariant-loop-byte : goal.invariant-loop-byte
invariant-loop-byte l =
    list_any is_nonzero (front_digits (drop l.byte-index l.text)) ≡ list_any is_nonzero
    (front_digits l.text)
