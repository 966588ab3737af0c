use Rattle.sql_meaning.proofs.Cells.{walks_depend_on_cells}
use Rattle.sql_meaning.proofs.walks.walks_depend_on_cells.Goals as goal

pub returns : goal.returns
returns c = walks_depend_on_cells
