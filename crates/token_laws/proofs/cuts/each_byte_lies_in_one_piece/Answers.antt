use Rattle.token_laws.proofs.CutLaws.{cut_exists, one_cut}
use Rattle.token_laws.proofs.cuts.each_byte_lies_in_one_piece.Goals as goal

pub returns-clause-some : goal.returns-clause-some
returns-clause-some c = cut_exists

pub returns-clause-one : goal.returns-clause-one
returns-clause-one c = one_cut
