use Rattle.std.proofs.Common.{◌≡◌, take}
use Rattle.schema_model.specs.PlainSchemas.{plain_rows}
use Rattle.index_lists.specs.Lent.{lent_rows}
use Rattle.plan_form.proofs.lists.table_list.Given as goal

abbrev pub invariant-loop-row : goal.invariant-loop-row
invariant-loop-row l = lent_rows l.list.items ≡ plain_rows (take l.row-index l.rows)
