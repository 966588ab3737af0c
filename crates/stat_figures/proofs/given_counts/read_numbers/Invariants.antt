use Rattle.std.proofs.Common.{◌≡◌, drop}
use Rattle.stat_figures.specs.GivenCounts.{numbers_of}
use Rattle.stat_figures.specs.Words.{lent_words}
use Rattle.stat_figures.proofs.WordLists.{behind_numbers}
use Rattle.stat_figures.proofs.given_counts.read_numbers.Given as goal

abbrev pub invariant-loop-word : goal.invariant-loop-word
invariant-loop-word l =
    behind_numbers l.numbers (numbers_of (lent_words (drop l.word-index l.words)))
    ≡ numbers_of (lent_words l.words)
