use Rattle.std.proofs.Common.{◌≡◌, take, map}
use Rattle.plan_choice.specs.GivenFigures as meant_given
use Rattle.stat_figures.specs.GivenCounts.{plain_slots}
use Rattle.stat_figures.proofs.figure_lists.unordered_indexes.Given as goal

abbrev pub invariant-loop-counts : goal.invariant-loop-counts
invariant-loop-counts l =
    l.unordered ≡ map meant_given.tells_unordered (plain_slots (take l.counts-index l.slots))
