use Rattle.plan_choice.proofs.FreeNames.{candidate_names_are_free}
use Rattle.plan_choice.proofs.choosing.names_are_free.Goals as goal

pub returns : goal.returns
returns c = candidate_names_are_free
