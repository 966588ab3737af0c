use Rattle.std.proofs.Common.{◌∙◌, ap, map}
use Rattle.sql_meaning.specs.IndexLists.{index_entries}
use Rattle.index_lists.specs.Lent.{lent_rows}
use Rattle.index_lists.specs.SortColumns.{sort_column_of}
use Rattle.plan_choice.specs.Figures.{sampled}
use Rattle.schema_model.specs.PlainSchemas.{plain_rows}
use Rattle.stat_figures.proofs.counted.index_counts.Goals as goal

pub returns : goal.returns
returns c =
    c.in_ok-counts.ensures (sampled c.args.percent (plain_rows c.args.rows.now))
    (ap lent_rows c.as_slice.ensures.value ∙ c.in_ok-entries.ensures
    ∙ ap (index_entries (map sort_column_of c.args.columns.now)) c.in_ok-list.ensures)
