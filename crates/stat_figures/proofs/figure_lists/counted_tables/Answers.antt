use Rattle.std.proofs.Common.{refl, arith, ap, sym, ◌∙◌, slice_index_or, []}
use Rattle.plan_choice.specs.Figures as meant
use Rattle.schema_model.specs.PlainSchemas.{plain_database, plain_rows}
use Rattle.stat_figures.proofs.Lists.{listed_more, seen_at}
use Rattle.stat_figures.proofs.figure_lists.counted_tables.Goals as goal

pub loop-rows-preserved : goal.loop-rows-preserved
loop-rows-preserved c =
    let i = c.loop-rows.rows-index in
    let percent = c.args.percent in
    let database = plain_database c.args.tables.now in
    listed_more (λ k. meant.table_figure (meant.sampled percent (slice_index_or database k []))) i i
    _ _ _ refl c.in_ok-push.ensures.ok c.loop-rows.invariant
    (c.table_figure.ensures
    ∙ ap (λ rows. meant.table_figure (meant.sampled percent rows))
    (ap plain_rows c.as_slice.ensures
    ∙ sym
    (seen_at plain_rows c.args.tables.now i c.rows-item.result [] (omega arith) c.rows-item.is)))
