use Rattle.std.proofs.Common.{◌≡◌, ◌≤◌, ◌-◌, ◌++◌, take, drop}
use Rattle.plan_choice.specs.GivenFigures as meant
use Rattle.stat_figures.specs.Words.{lent_words, behind_start}
use Rattle.stat_figures.proofs.words.words.Given as goal

abbrev pub invariant-loop-place : goal.invariant-loop-place
invariant-loop-place l = record {
  within : l.start ≤ l.place;
  told : lent_words l.list.items
      ++ behind_start (take (l.place - l.start) (drop l.start l.text))
      (meant.words_of (drop l.place l.text))
      ≡ meant.words_of l.text;
}
