use Rattle.std.proofs.Common.{◌≡◌, take}
use Rattle.plan_choice.specs.Figures as meant
use Rattle.schema_model.specs.PlainSchemas.{plain_schema}
use Rattle.stat_figures.specs.Requests.{uniques}
use Rattle.stat_figures.proofs.figure_lists.figures_of_indexes.Given as goal

abbrev pub invariant-loop-number : goal.invariant-loop-number
invariant-loop-number l =
    l.figures
    ≡ take l.number
    (meant.figures_of_indexes (uniques l.schema) 0 (plain_schema l.schema).indexes l.counted)
