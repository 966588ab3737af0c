use Rattle.std.proofs.Common.{◌≡◌, length}
use Rattle.sql_meaning.specs.DeclaredTypes.{holds_word}
use Rattle.sql_meaning.specs.Letters.{folded_bytes}
use Rattle.sql_value.proofs.types.holds_word.Given as goal

abbrev pub invariant-loop-rest : goal.invariant-loop-rest
invariant-loop-rest l =
    holds_word l.word (folded_bytes l.rest) ≡ holds_word l.word (folded_bytes l.text)

abbrev pub decreases-loop-rest : goal.decreases-loop-rest
decreases-loop-rest l = length l.rest
