use Rattle.std.proofs.Common.{arith, ap, sym, ◌∙◌, None, map, slice_get, take}
use Rattle.std.proofs.lemmas.List.{length-map}
use Rattle.plan_choice.specs.GivenFigures.{or_before}
use Rattle.plan_choice.specs.GivenFigures as meant
use Rattle.schema_model.specs.PlainSchemas.{plain_index, plain_schema}
use Rattle.stat_figures.specs.GivenCounts.{plain_counts, plain_slots, said_at}
use Rattle.std.specs.Option.{option_map}
use Rattle.stat_figures.specs.Requests.{names_of, plain_given}
use Rattle.stat_figures.proofs.GivenLists.{given_at, given_is, given_length, given_more, given_none}
use Rattle.stat_figures.proofs.Lists.{mapped_next, same_list, take_full}
use Rattle.stat_figures.proofs.given_rows.given_of_indexes.Goals as goal

pub loop-row-init : goal.loop-row-init
loop-row-init c = record {
  len = c.in_ok-slots.ensures.len ∙ c.index_count.ensures;
  given = λ k h. c.in_ok-slots.ensures.none k
      ∙ sym
      (given_none (names_of c.args.schema.now c.args.own)
      (slice_get (plain_schema c.args.schema.now).indexes k)
      (slice_get (names_of c.args.schema.now c.args.own).indexes k));
}

pub loop-row-preserved : goal.loop-row-preserved
loop-row-preserved c =
    let i = c.loop-row.row-index in
    let names = names_of c.args.schema.now c.args.own in
    let before = map plain_given (take i c.args.given.now) in
    record {
      len = c.in_ok-take_row.ensures.len ∙ c.loop-row.invariant.len;
      given = λ k h.
          let index = slice_get (plain_schema c.args.schema.now).indexes k in
          let name = slice_get names.indexes k in
          c.in_ok-take_row.ensures.taken k h
          ∙ ap (or_before (said_at c.args.schema.now c.args.own c.row-item.result k))
          (c.loop-row.invariant.given k h)
          ∙ sym (given_more names before c.row-item.result index name)
          ∙ ap (λ rows. given_at names rows index name)
          (sym
          (mapped_next plain_given c.args.given.now i c.row-item.result (omega arith)
          c.row-item.is));
    }

pub returns : goal.returns
returns c =
    let schema = c.args.schema.now in
    let names = names_of schema c.args.own in
    let rows = map plain_given c.args.given.now in
    let indexes = (plain_schema schema).indexes in
    let long = given_length names rows indexes names.indexes in
    let many = length-map schema.indexes plain_index in
    let held = length-map c.loop-row.slots.items (option_map plain_counts) in
    same_list None (plain_slots c.loop-row.slots.items)
    (meant.given_of_indexes names rows indexes names.indexes)
    (omega (arith, long, many, held, c.loop-row.invariant.len))
    (λ k h. c.loop-row.invariant.given k (omega (arith, long, many, h))
    ∙ ap
    (λ rs. given_at names (map plain_given rs) (slice_get indexes k) (slice_get names.indexes k))
    (take_full c.args.given.now c.loop-row.row-index (omega arith))
    ∙ sym (given_is names rows indexes names.indexes k (omega (arith, long, h))))
