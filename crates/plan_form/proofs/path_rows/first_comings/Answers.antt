use Rattle.std.proofs.Common.{◌++◌, ◌<◌, ◌+◌, ap, sym, ◌∙◌, drop, arith, length}
use Rattle.list_laws.specs.FirstComing.{keep_first}
use Rattle.sql_meaning.specs.Paths.{same_rowid}
use Rattle.schema_model.specs.PlainSchemas.{plain_row}
use Rattle.index_lists.specs.Lent.{lent_rows}
use Rattle.list_laws.proofs.Turns.{next_dropped}
use Rattle.plan_form.proofs.Unions.{comings_more, rows_of}
use Rattle.plan_form.proofs.path_rows.first_comings.Goals as goal

pub loop-row-preserved : goal.loop-row-preserved
loop-row-preserved c =
    let i = c.loop-row.row-index in
    let rows = c.args.rows.now in
    let row = c.row-item.result in
    let below : i < length rows = omega arith in
    comings_more c.loop-row.seen.keys c.is_new.new.seen.keys c.in_ok-new.new
    (lent_rows c.loop-row.kept.items) (lent_rows c.push_row_if.new.list.items) _
    (lent_rows (drop (i + 1) rows)) (plain_row row.now) c.in_ok-new.ensures.new
    c.in_ok-new.ensures.keys c.in_ok-push_row_if.ensures
    (ap
    (λ l. lent_rows c.loop-row.kept.items
    ++ keep_first same_rowid (rows_of c.loop-row.seen.keys) (lent_rows l))
    (sym (next_dropped rows i row below c.row-item.is)) ∙ c.loop-row.invariant)
