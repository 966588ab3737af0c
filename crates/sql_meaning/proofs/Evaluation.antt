-- The value of an expression depends on the items that it names.
use Rattle.std.proofs.Common.{◌≡◌, List}
use Rattle.list_laws.specs.Nest.{Agree}
use Rattle.sql_meaning.specs.Values.{Value}
use Rattle.sql_meaning.specs.Rows.{Assignment}
use Rattle.sql_meaning.specs.Expressions.{BExpr, names}
use Rattle.sql_meaning.specs.Evaluation.{ev}
use Rattle.sql_meaning.proofs.Cells.{ev_cells, agreeing_cells}

-- the value of an expression depends on the rows of the items that it names, and on no other
pub ev_same : (params : List Value) (e : BExpr) (env a : Assignment) → Agree (names e) env a
    → ev a params e ≡ ev env params e
ev_same params e env a h = ev_cells params e env a (agreeing_cells (names e) env a h)
