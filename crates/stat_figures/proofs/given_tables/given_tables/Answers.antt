use Rattle.std.proofs.Common.{◌≡◌, ℕ, arith, ap, sym, ◌∙◌, None, map, slice_index_or, ◌+◌}
use Rattle.plan_choice.specs.GivenFigures as meant
use Rattle.schema_model.specs.PlainSchemas.{plain_schema}
use Rattle.stat_figures.specs.GivenCounts.{plain_slots}
use Rattle.stat_figures.specs.Requests.{names_of, plain_given}
use Rattle.stat_figures.proofs.GivenLists.{tables_are}
use Rattle.plan_choice.proofs.FittingFigures.{tables_count}
use Rattle.stat_figures.proofs.Lists.{same_list}
use Rattle.stat_figures.proofs.given_tables.given_tables.Goals as goal

zero_is : (k : ℕ) → k ≡ 0 + k
zero_is k = omega arith

pub returns : goal.returns
returns c = λ own.
    let names = names_of c.args.schema.now own in
    let rows = map plain_given c.args.given.now in
    let indexes = (plain_schema c.args.schema.now).indexes in
    let given = plain_slots c.args.slots.now in
    let counted = c.args.counted.items in
    let long = tables_count names rows indexes given 0 counted in
    same_list 0 c.take_rows.new.tables.items (meant.given_tables names rows indexes given 0 counted)
    (c.in_ok-take_rows.ensures.len ∙ c.take_indexes.ensures.len ∙ sym long)
    (λ k h.
    c.in_ok-take_rows.ensures.taken k (omega (arith, h, long, c.take_indexes.ensures.len))
    ∙ ap (meant.table_or (meant.last_counts (meant.table_counts names k) None rows))
    (c.take_indexes.ensures.taken k (omega (arith, h, long)))
    ∙ ap
    (λ t. meant.table_or (meant.last_counts (meant.table_counts names t) None rows)
    (meant.first_of_table t indexes given (slice_index_or counted k 0))) (zero_is k)
    ∙ sym (tables_are names rows indexes given 0 counted k (omega (arith, h, long))))
