use Rattle.sql_meaning.proofs.TermLaws.{derived_terms_hold}
use Rattle.sql_meaning.proofs.derivations.derived_terms_hold.Goals as goal

pub returns : goal.returns
returns c = derived_terms_hold
