use Rattle.expert_advice.proofs.FullSchemas.{still_fit, terms_stay}
use Rattle.expert_advice.proofs.full.statements_keep_with_candidates.Goals as goal

pub returns-clause-fits : goal.returns-clause-fits
returns-clause-fits c = still_fit

pub returns-clause-terms : goal.returns-clause-terms
returns-clause-terms c = terms_stay
