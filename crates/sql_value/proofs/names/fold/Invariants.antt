use Rattle.std.proofs.Common.{◌≡◌, take}
use Rattle.sql_meaning.specs.Letters.{folded_bytes}
use Rattle.sql_value.proofs.names.fold.Given as goal

abbrev pub invariant-loop-byte : goal.invariant-loop-byte
invariant-loop-byte l = l.lower ≡ folded_bytes (take l.byte-index l.name)
