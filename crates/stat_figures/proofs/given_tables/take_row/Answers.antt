use Rattle.std.proofs.Common.{arith, ap, sym, ◌∙◌, None, false, cond, refl, length, ◌<◌, ◌==◌}
use Rattle.std.proofs.Common.{slice_index_or}
use Rattle.std.specs.Option.{option_map}
use Rattle.sql_meaning.specs.Letters.{folded_bytes}
use Rattle.plan_choice.specs.GivenFigures as meant
use Rattle.schema_model.specs.Schemas.{found_table}
use Rattle.stat_figures.specs.GivenCounts.{plain_counts}
use Rattle.stat_figures.specs.Requests.{names_of, plain_given}
use Rattle.stat_figures.proofs.GivenLists.{none_of, nothing_case, table_nothing, table_put}
use Rattle.stat_figures.proofs.GivenLists.{table_said}
use Rattle.stat_figures.proofs.Lists.{some_at}
use Rattle.stat_figures.proofs.Names.{found_within, no_table_is_named, table_is_named}
use Rattle.stat_figures.proofs.given_tables.take_row.Goals as goal
use Rattle.stat_figures.proofs.given_tables.take_row.Goals.{in-Some, in_default-2}

pub returns-in_default : goal.returns-in_default
returns-in_default c = record {
  len = refl;
  taken = λ k h.
      let schema = c.args.schema.now in
      let row = c.args.row.now in
      let there = some_at schema.tables k (omega (arith, h, c.requires)) in
      table_nothing (meant.table_counts (names_of schema 0) k (plain_given row)) _
      (table_said schema row k there.0 false there.1
      (none_of row.index (sym c.is_some.ensures ∙ c.if-is_some.false))
      (no_table_is_named schema c.schema_is_sound.ensures row.table c.find_table.result
      (c.find_table.ensures
      ∙ ap (found_table schema)
      (c.as_slice-2.ensures ∙ c.in_ok-folded.ensures ∙ ap folded_bytes c.as_slice.ensures))
      c.in_default.not-Read k there.0 there.1));
}

pub index_mut-requires : goal.index_mut-requires
index_mut-requires c =
    let schema = c.args.schema.now in
    let within = found_within schema _ c.in-Read.number (sym c.in-Read.is ∙ c.find_table.ensures) in
    omega (arith, within, c.requires)

pub returns-clause-taken : goal.returns-clause-taken
returns-clause-taken c = λ k h.
    let schema = c.args.schema.now in
    let row = c.args.row.now in
    let number = c.in-Read.number in
    let there = some_at schema.tables k (omega (arith, h, c.requires)) in
    let within = found_within schema _ number (sym c.in-Read.is ∙ c.find_table.ensures) in
    let inside : number < length c.args.tables.now.items = omega (arith, within, c.requires) in
    let said = table_said schema row k there.0 (number == k) there.1
    (none_of row.index (sym c.is_some.ensures ∙ c.if-is_some.false))
    (table_is_named schema c.schema_is_sound.ensures row.table number
    (sym c.in-Read.is ∙ c.find_table.ensures
    ∙ ap (found_table schema)
    (c.as_slice-2.ensures ∙ c.in_ok-folded.ensures ∙ ap folded_bytes c.as_slice.ensures)) k there.0
    there.1) in
    let read = c.in_ok-counts.ensures
    ∙ ap (λ t. meant.read_counts 1 (meant.words_of t)) c.as_slice-3.ensures in
    elim c.match-branch-3.branch [
      | in-Some w ↦
          ap (λ t. slice_index_or t.items k 0) w.tables-is
          ∙ table_put c.args.tables.now.items number k w.first_log.result
          (plain_counts w.in-Some.counts)
          (meant.table_counts (names_of schema 0) k (plain_given row)) inside w.first_log.ensures
          (said
          ∙ ap (λ o. cond (number == k) o None)
          (sym read ∙ ap (option_map plain_counts) w.in-Some.is))
      | in_default-2 w ↦
          ap (λ t. slice_index_or t.items k 0) w.tables-is
          ∙ table_nothing (meant.table_counts (names_of schema 0) k (plain_given row))
          (slice_index_or c.args.tables.now.items k 0)
          (said
          ∙ ap (λ o. cond (number == k) o None)
          (sym read ∙ ap (option_map plain_counts) w.in_default-2.is)
          ∙ nothing_case (number == k))
    ]
