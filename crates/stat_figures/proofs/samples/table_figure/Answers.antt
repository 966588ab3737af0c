use Rattle.std.proofs.Common.{arith, ◌∙◌}
use Rattle.plan_choice.specs.Figures as meant
use Rattle.schema_model.specs.PlainSchemas.{plain_rows}
use Rattle.stat_figures.proofs.SampledRows.{figure_of_some}
use Rattle.stat_figures.proofs.samples.table_figure.Goals as goal

pub returns : goal.returns
returns c =
    let rows = meant.sampled c.args.percent (plain_rows c.args.rows.now) in
    c.log_of.ensures.told
    ∙ figure_of_some rows c.sampled_count-count.result c.sampled_count-count.ensures (omega arith)
