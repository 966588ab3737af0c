use Rattle.std.proofs.Common.{◌≡◌}
use Rattle.plan_choice.specs.Figures as meant
use Rattle.schema_model.specs.PlainSchemas.{plain_database}
use Rattle.stat_figures.proofs.figure_lists.counted_tables.Given as goal

abbrev pub invariant-loop-rows : goal.invariant-loop-rows
invariant-loop-rows l =
    l.figures.items ≡ meant.rows_of_tables l.percent l.rows-index (plain_database l.tables)
