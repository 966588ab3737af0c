use Rattle.sql_meaning.proofs.Runs.{true_by_run}
use Rattle.sql_meaning.proofs.values.truth_is_of_a_run.Goals as goal

pub returns : goal.returns
returns c = true_by_run
