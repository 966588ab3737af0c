use Rattle.sql_meaning.proofs.Cells.{values_depend_on_cells}
use Rattle.sql_meaning.proofs.conditions.values_depend_on_cells.Goals as goal

pub returns : goal.returns
returns c = values_depend_on_cells
