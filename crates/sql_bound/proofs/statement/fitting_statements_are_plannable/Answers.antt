use Rattle.sql_bound.proofs.Plannable.{fitting_are_plannable}
use Rattle.sql_bound.proofs.statement.fitting_statements_are_plannable.Goals as goal

pub returns : goal.returns
returns c = fitting_are_plannable
