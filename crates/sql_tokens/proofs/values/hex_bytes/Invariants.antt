use Rattle.std.proofs.Common.{◌≡◌, ◌++◌, ◌<◌, drop}
use Rattle.std.specs.Prelude.{IfSome}
use Rattle.sql_tokens.specs.TokenValues.{hex_bytes, hex_bytes_after}
use Rattle.sql_tokens.proofs.values.hex_bytes.Given as goal

abbrev pub invariant-loop-digit : goal.invariant-loop-digit
invariant-loop-digit l = record {
  small : IfSome l.high (λ high. high < 16);
  same :
      l.bytes ++ hex_bytes_after l.high (drop l.digit-index l.digits) ≡ hex_bytes l.digits;
}
