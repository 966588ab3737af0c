use Rattle.std.proofs.Common.{◌∙◌, ap, sym, ◌*◌, ◌/◌}
use Rattle.std.proofs.lemmas.List.{length-map}
use Rattle.schema_model.specs.PlainSchemas.{plain_row, plain_rows}
use Rattle.stat_figures.proofs.SampledRows.{sampled_count}
use Rattle.stat_figures.proofs.samples.sampled_count.Goals as goal

pub returns : goal.returns
returns c =
    ap (λ n. n * c.args.percent / 100) (sym (length-map c.args.rows.now plain_row))
    ∙ sampled_count c.args.percent (plain_rows c.args.rows.now) c.requires
