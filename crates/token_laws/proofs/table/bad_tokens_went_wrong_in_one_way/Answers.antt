use Rattle.token_laws.proofs.BadForms.{one_bad_rule}
use Rattle.token_laws.proofs.table.bad_tokens_went_wrong_in_one_way.Goals as goal

pub returns : goal.returns
returns c = one_bad_rule
