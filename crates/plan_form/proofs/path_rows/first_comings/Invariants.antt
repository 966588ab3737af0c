use Rattle.std.proofs.Common.{◌≡◌, ◌++◌, [], drop}
use Rattle.list_laws.specs.FirstComing.{keep_first}
use Rattle.sql_meaning.specs.Paths.{same_rowid}
use Rattle.index_lists.specs.Lent.{lent_rows}
use Rattle.plan_form.proofs.Unions.{rows_of}
use Rattle.plan_form.proofs.path_rows.first_comings.Given as goal

abbrev pub invariant-loop-row : goal.invariant-loop-row
invariant-loop-row l = lent_rows l.kept.items
    ++ keep_first same_rowid (rows_of l.seen.keys) (lent_rows (drop l.row-index l.rows))
    ≡ keep_first same_rowid [] (lent_rows l.rows)
