use Rattle.std.proofs.Common.{◌≡◌, ap, ◌∙◌, length, map, sym}
use Rattle.std.specs.Option.{option_map}
use Rattle.std.proofs.lemmas.List.{length-map}
use Rattle.plan_choice.specs.FigureLaws.{AreOfSchema, AreSmall}
use Rattle.plan_choice.specs.Figures as meant
use Rattle.plan_choice.specs.GivenFigures as meant_given
use Rattle.schema_model.specs.PlainSchemas.{plain_database, plain_index, plain_schema}
use Rattle.stat_figures.specs.GivenCounts.{plain_counts, plain_slots}
use Rattle.stat_figures.specs.Requests.{names_of, plain_given, uniques}
use Rattle.stat_figures.proofs.FigureLists.{each_length, given_by, given_fit, rows_length}
use Rattle.stat_figures.proofs.GivenLists.{given_length}
use Rattle.stat_figures.proofs.figure_lists.given_figures.Goals.{In_ok-unordered}
use Rattle.stat_figures.proofs.figure_lists.given_figures.Goals as goal

pub given_tables-requires-clause-slots : goal.given_tables-requires-clause-slots
given_tables-requires-clause-slots c =
    let names = names_of c.args.schema.now c.args.own in
    let indexes = (plain_schema c.args.schema.now).indexes in
    sym (length-map c.as_slice-slots.result.now (option_map plain_counts))
    ∙ ap length (ap plain_slots c.as_slice-slots.ensures.value ∙ c.in_ok-held.ensures)
    ∙ given_length names (map plain_given c.as_slice.result.now) indexes names.indexes
    ∙ length-map c.args.schema.now.indexes plain_index

pub given_tables-requires-clause-tables : goal.given_tables-requires-clause-tables
given_tables-requires-clause-tables c =
    ap length c.in_ok-sampled.ensures
    ∙ rows_length c.args.percent (length c.as_slice-2.result.now)
    (plain_database c.as_slice-2.result.now)
    ∙ ap length c.as_slice-2.ensures ∙ c.requires.conform.counted

pub figures_of_indexes-requires : goal.figures_of_indexes-requires
figures_of_indexes-requires c =
    let indexes = (plain_schema c.args.schema.now).indexes in
    let counts = meant.counts_of c.args.percent (plain_database c.as_slice-4.result.now) in
    ap length (c.as_slice-5.ensures ∙ c.in_ok-counted.ensures)
    ∙ each_length meant_given.numbers_or (map counts indexes)
    (plain_slots c.as_slice-slots.result.now)
    ∙ length-map indexes counts ∙ length-map c.args.schema.now.indexes plain_index

abbrev figures : In_ok-unordered → meant.Figures
figures c = record {
  tables = c.in_ok-tables.tables.items;
  indexes = c.in_ok-indexes.indexes;
  counted = c.in_ok-counted.counted;
  unordered = c.in_ok-unordered.unordered;
}

made : (c : In_ok-unordered)
    → figures c
    ≡ meant_given.given_figures (names_of c.args.schema.now c.args.own)
    (map plain_given c.args.given.now) (plain_schema c.args.schema.now).indexes
    (meant.figures (plain_schema c.args.schema.now) (uniques c.args.schema.now)
    (plain_database c.args.rows.now) c.args.percent)
made c =
    let names = names_of c.args.schema.now c.args.own in
    let indexes = (plain_schema c.args.schema.now).indexes in
    given_by c.args.schema.now names (map plain_given c.args.given.now) c.args.rows.now _ _
    c.args.percent (plain_slots c.as_slice-slots.result.now) _ _ _ _ _ _
    c.requires.conform.counted c.as_slice-2.ensures c.as_slice-4.ensures c.as_slice-5.ensures
    (ap plain_slots c.as_slice-slots.ensures.value ∙ c.in_ok-held.ensures
    ∙ ap (λ g. meant_given.given_of_indexes names (map plain_given g) indexes names.indexes)
    c.as_slice.ensures) c.in_ok-sampled.ensures
    (c.in_ok-tables.ensures c.args.own
    ∙ ap
    (λ g. meant_given.given_tables names (map plain_given g) indexes
    (plain_slots c.as_slice-slots.result.now) 0 c.in_ok-sampled.sampled.items)
    c.as_slice-3.ensures) c.in_ok-counted.ensures c.in_ok-indexes.ensures
    c.in_ok-unordered.ensures

fit : (c : In_ok-unordered)
    → AreOfSchema (plain_schema c.args.schema.now) (figures c) × AreSmall (figures c)
fit c =
    given_fit (names_of c.args.schema.now c.args.own) (map plain_given c.args.given.now)
    (plain_schema c.args.schema.now) (uniques c.args.schema.now) (plain_database c.args.rows.now)
    c.args.percent _ (made c)

pub returns-clause-told : goal.returns-clause-told
returns-clause-told c = made (goal.at.returns-clause-told c).In_ok-unordered

pub invariant_of-result : goal.invariant_of-result
invariant_of-result c = (fit (goal.at.invariant_of-result c).In_ok-unordered).1

pub returns-clause-fit : goal.returns-clause-fit
returns-clause-fit c = (fit (goal.at.returns-clause-fit c).In_ok-unordered).0
