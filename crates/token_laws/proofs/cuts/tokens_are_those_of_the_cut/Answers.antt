use Rattle.token_laws.proofs.CutLaws.{tokens_of-cut}
use Rattle.token_laws.proofs.cuts.tokens_are_those_of_the_cut.Goals as goal

pub returns : goal.returns
returns c = tokens_of-cut
