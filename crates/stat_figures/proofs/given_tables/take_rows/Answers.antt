use Rattle.std.proofs.Common.{arith, ap, sym, ◌∙◌, None, map, slice_index_or, take}
use Rattle.plan_choice.specs.GivenFigures as meant
use Rattle.stat_figures.specs.Requests.{names_of, plain_given}
use Rattle.stat_figures.proofs.GivenLists.{last_more, table_more}
use Rattle.stat_figures.proofs.Lists.{mapped_next}
use Rattle.stat_figures.proofs.given_tables.take_rows.Goals as goal

pub loop-row-preserved : goal.loop-row-preserved
loop-row-preserved c =
    let i = c.loop-row.row-index in
    let names = names_of c.args.schema.now 0 in
    let row = c.row-item.result in
    let before = map plain_given (take i c.args.given.now) in
    record {
      len = c.in_ok-take_row.ensures.len ∙ c.loop-row.invariant.len;
      taken = λ k h.
          let read = meant.table_counts names k in
          let n = slice_index_or c.args.tables.now.items k 0 in
          c.in_ok-take_row.ensures.taken k (omega (arith, h, c.loop-row.invariant.len))
          ∙ ap (meant.table_or (read (plain_given row))) (c.loop-row.invariant.taken k h)
          ∙ sym (table_more (read (plain_given row)) (meant.last_counts read None before) n)
          ∙ ap (λ o. meant.table_or o n) (sym (last_more read None before (plain_given row)))
          ∙ ap (λ rows. meant.table_or (meant.last_counts read None rows) n)
          (sym
          (mapped_next plain_given c.args.given.now i row (omega arith) c.row-item.is));
    }
