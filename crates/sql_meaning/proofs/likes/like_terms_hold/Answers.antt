use Rattle.sql_meaning.proofs.LikeTerms.{like_terms_hold}
use Rattle.sql_meaning.proofs.likes.like_terms_hold.Goals as goal

pub returns : goal.returns
returns c = like_terms_hold
