use Rattle.std.proofs.Common.{◌≡◌, ◌++◌, drop}
use Rattle.plan_choice.specs.Figures as meant
use Rattle.stat_figures.proofs.texts.append_further.Given as goal

abbrev pub invariant-loop-count : goal.invariant-loop-count
invariant-loop-count l =
    l.text ++ meant.further_counts (drop l.count-index l.counts)
    ≡ l.fn.text ++ meant.further_counts l.counts
