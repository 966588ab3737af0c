use Rattle.std.proofs.Common.{◌≡◌, map, take}
use Rattle.plan_choice.specs.Figures as meant
use Rattle.plan_choice.specs.GivenFigures as meant_given
use Rattle.schema_model.specs.PlainSchemas.{plain_database, plain_schema}
use Rattle.stat_figures.specs.GivenCounts.{plain_slots}
use Rattle.stat_figures.proofs.figure_lists.counts_of_indexes.Given as goal

abbrev pub invariant-loop-number : goal.invariant-loop-number
invariant-loop-number l =
    l.counted
    ≡ take l.number
    (meant_given.each_or meant_given.numbers_or
    (map (meant.counts_of l.percent (plain_database l.tables)) (plain_schema l.schema).indexes)
    (plain_slots l.slots))
