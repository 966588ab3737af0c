use Rattle.std.proofs.Common.{◌≡◌, map, take}
use Rattle.plan_choice.specs.Figures as meant
use Rattle.stat_figures.proofs.averages.averages.Given as goal

abbrev pub invariant-loop-values : goal.invariant-loop-values
invariant-loop-values l =
    l.counts ≡ map (meant.quotient_up l.total) (take l.values-index l.distinct)
