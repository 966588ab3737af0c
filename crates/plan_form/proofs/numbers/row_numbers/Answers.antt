use Rattle.std.proofs.Common.{◌∷◌, ◌++◌, ◌<◌, ◌+◌, ap, sym, ◌∙◌, drop, arith, length, map, Some, List, subst}
use Rattle.std.specs.List.{AllByRecursion, slice_get}
use Rattle.schema_model.specs.PlainSchemas.{plain_row, plain_rows}
use Rattle.schema_model.specs.declared.rows.Row.{Row}
use Rattle.index_lists.specs.Lent.{lent_rows}
use Rattle.list_laws.proofs.Turns.{next_dropped}
use Rattle.plan_form.specs.LoopRows.{IsRowIn}
use Rattle.plan_form.proofs.RowidSearch.{numbers_more, within_more}
use denote.Ref.{Bor}
use Rattle.plan_form.proofs.numbers.row_numbers.Goals as goal

pub row_number-requires-clause-member : goal.row_number-requires-clause-member
row_number-requires-clause-member c =
    let i = c.loop-row.row-index in
    let rows = c.args.rows.now in
    let row = c.row-item.result in
    let below : i < length rows = omega arith in
    let all : AllByRecursion (IsRowIn (plain_rows c.args.table.now))
    (lent_rows (row ∷ drop (i + 1) rows)) =
    subst
    (λ (l : List (Bor Row)). AllByRecursion (IsRowIn (plain_rows c.args.table.now)) (lent_rows l))
    (next_dropped rows i row below c.row-item.is) c.loop-row.invariant.members in
    all.0

pub loop-row-preserved : goal.loop-row-preserved
loop-row-preserved c =
    let i = c.loop-row.row-index in
    let rows = c.args.rows.now in
    let row = c.row-item.result in
    let table = c.args.table.now in
    let below : i < length rows = omega arith in
    let split = next_dropped rows i row below c.row-item.is in
    let all : AllByRecursion (IsRowIn (plain_rows table)) (lent_rows (row ∷ drop (i + 1) rows)) =
    subst (λ (l : List (Bor Row)). AllByRecursion (IsRowIn (plain_rows table)) (lent_rows l)) split
    c.loop-row.invariant.members in
    record {
      within = within_more table c.loop-row.numbers.items c.push.new.list.items
          c.row_number.result (plain_row row.now) c.row_number.ensures c.in_ok-push.ensures.ok
          c.loop-row.invariant.within;
      members = all.1;
      rows = numbers_more (plain_rows table) c.loop-row.numbers.items c.push.new.list.items
          c.row_number.result (plain_row row.now) (lent_rows (drop (i + 1) rows)) _
          c.row_number.ensures c.in_ok-push.ensures.ok
          (ap
          (λ l. map (slice_get (plain_rows table)) c.loop-row.numbers.items
          ++ map Some (lent_rows l)) (sym split) ∙ c.loop-row.invariant.rows);
    }
