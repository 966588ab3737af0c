use Rattle.std.proofs.Common.{◌≡◌, drop}
use Rattle.sql_meaning.specs.DeclaredTypes.{begins_with}
use Rattle.sql_meaning.specs.Letters.{folded_bytes}
use Rattle.sql_value.proofs.types.begins_with.Given as goal

abbrev pub invariant-loop-letter : goal.invariant-loop-letter
invariant-loop-letter l =
    begins_with (drop l.letter-index l.word) (folded_bytes l.rest) ≡ begins_with l.word
    (folded_bytes l.text)
