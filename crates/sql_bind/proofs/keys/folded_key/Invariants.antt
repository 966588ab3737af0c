use Rattle.std.proofs.Common.{◌≡◌, take}
use Rattle.sql_meaning.specs.Letters.{folded_bytes}
use Rattle.sql_bind.proofs.keys.folded_key.Given as goal

abbrev pub invariant-loop-byte : goal.invariant-loop-byte
invariant-loop-byte l = l.key.items ≡ folded_bytes (take l.byte-index l.name)
