use Rattle.std.proofs.Common.{sym, ◌∙◌}
use Rattle.like_range.proofs.Places.{fits_byte, fits_character}
use Rattle.like_range.proofs.matching.behind_byte.Goals as goal

pub returns-in-len1-up-clause-left : goal.returns-in-len1-up-clause-left
returns-in-len1-up-clause-left c pattern =
    rw (c.if-byte-eq95.true, c.behind_character.ensures)
    (fits_character c.args.text.now c.in-len1-up.len_at_least pattern)

pub returns-in-len1-up-2-clause-left : goal.returns-in-len1-up-2-clause-left
returns-in-len1-up-2-clause-left c =
    fits_byte c.args.text.now c.args.byte c.in-len1-up.len_at_least c.requires c.if-byte-eq95.false
    (sym c.fold_byte.ensures ∙ (c.if-fold_byte.true ∙ c.fold_byte-2.ensures))
