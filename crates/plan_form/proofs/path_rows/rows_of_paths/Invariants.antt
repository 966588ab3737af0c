use Rattle.std.proofs.Common.{◌≡◌, ◌++◌, List, drop}
use Rattle.sql_meaning.specs.Rows as plain
use Rattle.sql_meaning.specs.Schemas as schemas
use Rattle.sql_eval.specs.Environments.{assignment_of, params_of}
use Rattle.index_lists.specs.Lent.{lent_rows}
use Rattle.plan_form.specs.LoopRows.{branch_rows}
use Rattle.plan_form.specs.Seeks.{lent_paths}
use Rattle.plan_form.specs.SortedLists.{AreListsOf}
use Rattle.plan_form.proofs.path_rows.rows_of_paths.Given as goal

abbrev pub invariant-loop-number : goal.invariant-loop-number
invariant-loop-number l = (schema : schemas.Schema) → (rows : List plain.Row)
    → AreListsOf schema rows (lent_paths l.paths) l.lists
    → lent_rows l.found.items
    ++ branch_rows schema (params_of l.env) (drop l.number (lent_paths l.paths)) rows
    (assignment_of l.env)
    ≡ branch_rows schema (params_of l.env) (lent_paths l.paths) rows (assignment_of l.env)
