use Rattle.std.proofs.Common.{◌≡◌, ℕ, arith, ap, sym, ◌∙◌, None, cond, refl, ◌==◌, ◌+◌, ◌<◌, length}
use Rattle.std.proofs.Common.{slice_index_or}
use Rattle.std.specs.Option.{option_map}
use Rattle.std.proofs.lemmas.Bool.{eq-eqb}
use Rattle.plan_choice.specs.GivenFigures.{or_before, read_counts, words_of}
use Rattle.stat_figures.specs.GivenCounts.{is_number, said_at, plain_counts, plain_slots}
use Rattle.stat_figures.proofs.GivenLists.{counts_said, empty_said, nothing_said, row_says}
use Rattle.stat_figures.proofs.GivenLists.{nothing_case, number_said, slot_put}
use Rattle.stat_figures.proofs.Lists.{some_at, within_at}
use Rattle.stat_figures.proofs.given_rows.take_row.Goals.{In_ok-counts}
use Rattle.stat_figures.proofs.given_rows.take_row.Goals as goal

pub returns-in_default-clause-taken : goal.returns-in_default-clause-taken
returns-in_default-clause-taken c = λ k h.
    let schema = c.args.schema.now in
    let there = some_at schema.indexes k h in
    nothing_said (said_at schema c.args.own c.args.row.now k) _
    (row_says schema c.args.own c.args.row.now c.in_ok-number.field-0 k there.0 there.1
    (c.in_ok-number.ensures.named k there.0 there.1)
    ∙ ap (λ o. cond (is_number k o) (counts_said there.0 c.args.row.now) None) c.in_default.is)

pub index-requires : goal.index-requires
index-requires c =
    c.in_ok-number.ensures.within c.in-Some.number
    (ap (is_number c.in-Some.number) c.in-Some.is
    ∙ eq-eqb c.in-Some.number c.in-Some.number refl)

pub returns-then-columns-eq0-clause-taken : goal.returns-then-columns-eq0-clause-taken
returns-then-columns-eq0-clause-taken c = λ k h.
    let schema = c.args.schema.now in
    let there = some_at schema.indexes k h in
    nothing_said (said_at schema c.args.own c.args.row.now k) _
    (row_says schema c.args.own c.args.row.now c.in_ok-number.field-0 k there.0 there.1
    (c.in_ok-number.ensures.named k there.0 there.1)
    ∙ ap (λ o. cond (is_number k o) (counts_said there.0 c.args.row.now) None) c.in-Some.is
    ∙ empty_said schema.indexes c.args.row.now c.in-Some.number k c.index.result.now there.0
    c.index.ensures there.1 (sym (ap length c.as_slice-columns.ensures) ∙ c.if-columns-eq0.true))

-- what the row says is what was read, at the index that it names
read : (c : In_ok-counts) (k : ℕ) → k < length c.args.schema.now.indexes
    → said_at c.args.schema.now c.args.own c.args.row.now k
    ≡ cond (c.in-Some.number == k) (option_map plain_counts c.in_ok-counts.field-0) None
read c k h =
    let schema = c.args.schema.now in
    let row = c.args.row.now in
    let there = some_at schema.indexes k h in
    row_says schema c.args.own row c.in_ok-number.field-0 k there.0 there.1
    (c.in_ok-number.ensures.named k there.0 there.1)
    ∙ ap (λ o. cond (is_number k o) (counts_said there.0 row) None) c.in-Some.is
    ∙ number_said schema.indexes row c.in-Some.number k c.index.result.now there.0 _
    c.index.ensures there.1
    (λ e. c.if-columns-eq0.false (ap length c.as_slice-columns.ensures ∙ e))
    (c.in_ok-counts.ensures
    ∙ ap (λ n. read_counts (n + 1) (words_of c.as_slice.result.now))
    (ap length c.as_slice-columns.ensures)
    ∙ ap (λ t. read_counts (length c.index.result.now.columns + 1) (words_of t)) c.as_slice.ensures)

pub returns-in_default-2-clause-taken : goal.returns-in_default-2-clause-taken
returns-in_default-2-clause-taken c = λ k h.
    nothing_said (said_at c.args.schema.now c.args.own c.args.row.now k) _
    (read (goal.at.returns-in_default-2-clause-taken c).In_ok-counts k h
    ∙ ap (λ o. cond (c.in-Some.number == k) (option_map plain_counts o) None) c.in_default-2.is
    ∙ nothing_case (c.in-Some.number == k))

pub returns-in-Some-2-clause-taken : goal.returns-in-Some-2-clause-taken
returns-in-Some-2-clause-taken c = λ k h.
    let old = slice_index_or (plain_slots c.args.slots.now.items) k None in
    let within : c.in-Some.number < length c.args.slots.now.items =
    (let inside =
    within_at c.args.schema.now.indexes c.in-Some.number c.index.result.now c.index.ensures in
    omega (arith, inside, c.requires)) in
    slot_put c.args.slots.now.items c.in-Some.number k c.in-Some-2.counts within
    ∙ ap (λ s. or_before s old)
    (sym
    (read (goal.at.returns-in-Some-2-clause-taken c).In_ok-counts k h
    ∙ ap (λ o. cond (c.in-Some.number == k) (option_map plain_counts o) None) c.in-Some-2.is))
