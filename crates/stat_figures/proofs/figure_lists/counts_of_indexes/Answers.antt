use Rattle.std.proofs.Common.{arith, ap, ◌∙◌, map, None, slice_index_or}
use Rattle.std.specs.Option.{option_map}
use Rattle.std.proofs.lemmas.List.{length-map}
use Rattle.std.proofs.lemmas.Option.{slice_get-map}
use Rattle.plan_choice.specs.Figures as meant
use Rattle.plan_choice.specs.GivenFigures as meant_given
use Rattle.schema_model.specs.PlainSchemas.{plain_database, plain_index, plain_schema}
use Rattle.stat_figures.specs.GivenCounts.{plain_slots}
use Rattle.stat_figures.proofs.FigureLists.{each_get, each_length}
use Rattle.stat_figures.proofs.Lists.{taken_more, take_full, some_at}
use Rattle.stat_figures.proofs.figure_lists.counts_of_indexes.Goals as goal

pub loop-number-preserved : goal.loop-number-preserved
loop-number-preserved c =
    let i = c.loop-number.number in
    let indexes = c.args.schema.now.indexes in
    let counts = meant.counts_of c.args.percent (plain_database c.args.tables.now) in
    let all = map counts (plain_schema c.args.schema.now).indexes in
    let slots = plain_slots c.args.slots.now in
    let there = some_at indexes i (omega arith) in
    let index = there.0 in
    let own = counts (plain_index index) in
    taken_more (meant_given.each_or meant_given.numbers_or all slots) i
    (meant_given.numbers_or own (slice_index_or slots i None)) _ _ _
    c.in_ok-push.ensures.ok c.loop-number.invariant
    (each_get all slots i own
    (slice_get-map counts (plain_schema c.args.schema.now).indexes i
    ∙ ap (option_map counts)
    (slice_get-map plain_index indexes i ∙ ap (option_map plain_index) there.1)))
    (c.in_ok-counts_of_index.ensures index there.1
    ∙ ap (meant_given.numbers_or own) c.slot-given.ensures)

pub returns : goal.returns
returns c =
    let counts = meant.counts_of c.args.percent (plain_database c.args.tables.now) in
    let indexes = (plain_schema c.args.schema.now).indexes in
    let all = map counts indexes in
    let slots = plain_slots c.args.slots.now in
    let many = length-map c.args.schema.now.indexes plain_index in
    let more = length-map indexes counts in
    let long = each_length meant_given.numbers_or all slots in
    c.loop-number.invariant
    ∙ take_full (meant_given.each_or meant_given.numbers_or all slots) c.loop-number.number
    (omega (arith, long, more, many))
