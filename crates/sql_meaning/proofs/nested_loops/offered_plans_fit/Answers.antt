use Rattle.sql_meaning.proofs.PlanFits.{offered_plans_fit}
use Rattle.sql_meaning.proofs.nested_loops.offered_plans_fit.Goals as goal

pub returns : goal.returns
returns c = offered_plans_fit
