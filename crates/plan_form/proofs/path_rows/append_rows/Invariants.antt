use Rattle.std.proofs.Common.{◌≡◌, ◌++◌, take}
use Rattle.index_lists.specs.Lent.{lent_rows}
use Rattle.plan_form.proofs.path_rows.append_rows.Given as goal

abbrev pub invariant-loop-row : goal.invariant-loop-row
invariant-loop-row l = lent_rows l.list.items ≡ lent_rows l.fn.list.items ++ lent_rows (take l.row-index l.rows)
