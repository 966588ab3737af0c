use Rattle.sql_meaning.proofs.Asked.{offered_plans_mean}
use Rattle.sql_meaning.proofs.nested_loops.offered_plans_mean.Goals as goal

pub returns : goal.returns
returns c = offered_plans_mean
