use Rattle.std.proofs.Common.{◌≡◌, ◌≤◌, drop}
use Rattle.std.specs.Str.{all_ascii_digits}
use Rattle.sql_meaning.specs.Numbers.{digits_behind}
use Rattle.sql_value.proofs.numbers.read_digits.Given as goal

abbrev pub invariant-loop-digit : goal.invariant-loop-digit
invariant-loop-digit l = record {
  small : l.number ≤ l.most;
  value : digits_behind 0 l.digits ≡ digits_behind l.number (drop l.digit-index l.digits);
  all : all_ascii_digits l.digits ≡ all_ascii_digits (drop l.digit-index l.digits);
}
