use Rattle.std.proofs.Common.{◌≡◌, ℕ, ◌<◌, false, List, [], ◌∷◌, length, drop, refl, sym, ◌∙◌}
use Rattle.std.proofs.Common.{arith}
use Rattle.std.proofs.lemmas.List.{drop_more}
use Rattle.sql_meaning.specs.DeclaredTypes.{begins_with}
use Rattle.sql_meaning.specs.Letters.{folded_bytes}
use Rattle.sql_value.proofs.types.begins_with.Goals as goal

text_ended : (word text : List ℕ) (i : ℕ) → i < length word → length text < 1
    → begins_with (drop i word) (folded_bytes text) ≡ false
text_ended word [] i h e = rw (drop_more word i 0 h) refl
text_ended word (b ∷ bs) i h e = absurd (omega (arith, e))

pub returns-in_default : goal.returns-in_default
returns-in_default c =
    sym (text_ended c.args.word.now c.loop-letter.rest.now c.loop-letter.letter-index
    c.loop-letter-test.true c.in_default.len_below)
    ∙ c.loop-letter.invariant
