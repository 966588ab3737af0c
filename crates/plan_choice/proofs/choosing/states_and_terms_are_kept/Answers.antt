use Rattle.plan_choice.proofs.KeptParts.{states_go_on, terms_are_of_tables}
use Rattle.plan_choice.proofs.choosing.states_and_terms_are_kept.Goals as goal

pub returns-clause-states : goal.returns-clause-states
returns-clause-states c = states_go_on

pub returns-clause-terms : goal.returns-clause-terms
returns-clause-terms c = terms_are_of_tables
