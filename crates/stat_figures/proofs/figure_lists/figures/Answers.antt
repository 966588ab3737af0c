use Rattle.std.proofs.Common.{ap, ◌∙◌, length, map, []}
use Rattle.std.proofs.lemmas.List.{length-map}
use Rattle.plan_choice.specs.Figures as meant
use Rattle.plan_choice.specs.GivenFigures as meant_given
use Rattle.schema_model.specs.PlainSchemas.{plain_database, plain_index, plain_schema}
use Rattle.stat_figures.specs.Requests.{uniques}
use Rattle.stat_figures.proofs.FigureLists.{counted_fit, each_length, figures_by}
use Rattle.stat_figures.proofs.figure_lists.figures.Goals as goal

pub figures_of_indexes-requires : goal.figures_of_indexes-requires
figures_of_indexes-requires c =
    let indexes = (plain_schema c.args.schema.now).indexes in
    let counts = meant.counts_of c.args.percent (plain_database c.as_slice-2.result.now) in
    ap length (c.as_slice-3.ensures ∙ c.in_ok-counted.ensures)
    ∙ each_length meant_given.numbers_or (map counts indexes) []
    ∙ length-map indexes counts ∙ length-map c.args.schema.now.indexes plain_index

pub returns-clause-told : goal.returns-clause-told
returns-clause-told c =
    figures_by c.args.schema.now c.args.rows.now _ _ c.args.percent _ _ _ _ _
    c.requires.conform.counted c.as_slice.ensures c.as_slice-2.ensures c.as_slice-3.ensures
    c.in_ok-tables.ensures c.in_ok-counted.ensures c.in_ok-indexes.ensures c.new.ensures

pub invariant_of-result : goal.invariant_of-result
invariant_of-result c =
    (counted_fit (plain_schema c.args.schema.now) (uniques c.args.schema.now)
    (plain_database c.args.rows.now) c.args.percent _
    (figures_by c.args.schema.now c.args.rows.now _ _ c.args.percent _ _ _ _ _
    c.requires.conform.counted c.as_slice.ensures c.as_slice-2.ensures c.as_slice-3.ensures
    c.in_ok-tables.ensures c.in_ok-counted.ensures c.in_ok-indexes.ensures c.new.ensures)).1

pub returns-clause-fit : goal.returns-clause-fit
returns-clause-fit c =
    (counted_fit (plain_schema c.args.schema.now) (uniques c.args.schema.now)
    (plain_database c.args.rows.now) c.args.percent _
    (figures_by c.args.schema.now c.args.rows.now _ _ c.args.percent _ _ _ _ _
    c.requires.conform.counted c.as_slice.ensures c.as_slice-2.ensures c.as_slice-3.ensures
    c.in_ok-tables.ensures c.in_ok-counted.ensures c.in_ok-indexes.ensures c.new.ensures)).0
