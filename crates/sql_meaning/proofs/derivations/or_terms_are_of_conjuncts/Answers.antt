use Rattle.sql_meaning.proofs.OrTerms.{or_terms_are_of_conjuncts}
use Rattle.sql_meaning.proofs.derivations.or_terms_are_of_conjuncts.Goals as goal

pub returns : goal.returns
returns c = or_terms_are_of_conjuncts
