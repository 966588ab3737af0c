use Rattle.grammar_laws.proofs.Known.{known}
use Rattle.grammar_laws.proofs.laws.spelled_runs_are_known.Goals as goal

pub returns : goal.returns
returns c = known
