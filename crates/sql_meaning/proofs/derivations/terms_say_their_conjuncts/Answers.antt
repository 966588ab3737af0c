use Rattle.sql_meaning.proofs.ServingExact.{serving_is_exact}
use Rattle.sql_meaning.proofs.TermLaws.{terms_say_their_conjuncts}
use Rattle.sql_meaning.proofs.derivations.terms_say_their_conjuncts.Goals as goal

pub returns-clause-same_truth : goal.returns-clause-same_truth
returns-clause-same_truth c = terms_say_their_conjuncts

pub returns-clause-listed : goal.returns-clause-listed
returns-clause-listed c = serving_is_exact
