use Rattle.std.proofs.Common.{◌≡◌, drop}
use Rattle.plan_choice.specs.GivenFigures as meant
use Rattle.stat_figures.specs.Words.{lent_words}
use Rattle.stat_figures.proofs.words.has_word.Given as goal

abbrev pub invariant-loop-held : goal.invariant-loop-held
invariant-loop-held l =
    meant.has_word l.word (lent_words (drop l.held-index l.words))
    ≡ meant.has_word l.word (lent_words l.words)
