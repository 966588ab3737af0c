use Rattle.std.proofs.Common.{◌++◌, ◌+◌, ap, sym, ◌∙◌, drop, map, List}
use Rattle.list_laws.specs.FirstComing.{keep_first}
use Rattle.plan_choice.specs.Scans.{same_column}
use Rattle.schema_model.specs.PlainSchemas.{plain_index_column}
use Rattle.schema_model.specs.declared.indexes.IndexColumn.{IndexColumn}
use Rattle.list_laws.proofs.Turns.{dropped_or}
use Rattle.statement_scans.proofs.FirstColumns.{column_more, columns_of}
use Rattle.statement_scans.proofs.columns.each_once.Goals as goal

pub loop-column-preserved : goal.loop-column-preserved
loop-column-preserved c =
    let i = c.loop-column.column-index in
    let columns = c.args.columns.now in
    column_more c.loop-column.seen.keys c.is_new.new.seen.keys c.in_ok-new.new
    (map plain_index_column c.loop-column.list) (map plain_index_column c.push_if.new.list)
    (map plain_index_column (drop (i + 1) columns)) _ _ c.in_ok-new.ensures.new
    c.in_ok-new.ensures.keys c.in_ok-push_if.ensures
    (ap
    (λ (l : List IndexColumn). map plain_index_column c.loop-column.list
    ++ keep_first same_column (columns_of c.loop-column.seen.keys) (map plain_index_column l))
    (sym (dropped_or columns i _ c.loop-column-test.true)) ∙ c.loop-column.invariant)
