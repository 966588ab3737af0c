use Rattle.std.proofs.Common.{◌≡◌, map, take}
use Rattle.plan_choice.specs.Logarithms as plain
use Rattle.stat_figures.proofs.averages.logs.Given as goal

abbrev pub invariant-loop-count : goal.invariant-loop-count
invariant-loop-count l = l.figures ≡ map plain.log_est (take l.count-index l.counts)
