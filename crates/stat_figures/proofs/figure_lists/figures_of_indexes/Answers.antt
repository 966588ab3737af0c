use Rattle.std.proofs.Common.{arith, ap, sym, ◌∙◌, length, false}
use Rattle.std.specs.Option.{option_map}
use Rattle.std.proofs.lemmas.List.{length-map}
use Rattle.std.proofs.lemmas.Option.{slice_get-map}
use Rattle.plan_choice.specs.Figures as meant
use Rattle.schema_model.specs.PlainSchemas.{plain_index, plain_index_column, plain_schema}
use Rattle.stat_figures.specs.Requests.{uniques}
use Rattle.stat_figures.proofs.FigureLists.{figures_at, figures_length}
use Rattle.stat_figures.proofs.Lists.{taken_more, take_full, get_at, seen_get}
use Rattle.stat_figures.proofs.figure_lists.figures_of_indexes.Goals as goal

pub loop-number-preserved : goal.loop-number-preserved
loop-number-preserved c =
    let i = c.loop-number.number in
    let index = c.index-index.result.now in
    let indexes = c.args.schema.now.indexes in
    let counted = c.args.counted.now in
    let counts = c.index-counted-number.result in
    let columns = plain_index index in
    taken_more
    (meant.figures_of_indexes (uniques c.args.schema.now) 0 (plain_schema c.args.schema.now).indexes
    counted) i (meant.index_figures index.unique (length columns.columns) counts) _ _ _
    c.in_ok-push.ensures.ok c.loop-number.invariant
    (figures_at (uniques c.args.schema.now) (plain_schema c.args.schema.now).indexes counted i
    columns counts index.unique
    (slice_get-map plain_index indexes i ∙ ap (option_map plain_index) c.index-index.ensures)
    (get_at counted i counts (omega arith) c.index-counted-number.is)
    (seen_get (λ held. held.unique) indexes i index false c.index-index.ensures))
    (c.in_ok-index_figures.ensures
    ∙ ap (meant.index_figures index.unique (length c.as_slice-columns.result.now))
    c.as_slice-counts.ensures
    ∙ ap (λ n. meant.index_figures index.unique n counts)
    (ap length c.as_slice-columns.ensures
    ∙ sym (length-map index.columns plain_index_column)))

pub returns : goal.returns
returns c =
    let indexes = (plain_schema c.args.schema.now).indexes in
    let counted = c.args.counted.now in
    let many = length-map c.args.schema.now.indexes plain_index in
    let long = figures_length (uniques c.args.schema.now) 0 indexes counted
    (c.requires ∙ sym many) in
    c.loop-number.invariant
    ∙ take_full (meant.figures_of_indexes (uniques c.args.schema.now) 0 indexes counted)
    c.loop-number.number (omega (arith, long, many))
