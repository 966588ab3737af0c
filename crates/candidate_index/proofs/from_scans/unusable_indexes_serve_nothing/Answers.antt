use Rattle.candidate_index.proofs.ServedLists.{unusable_serve_nothing}
use Rattle.candidate_index.proofs.from_scans.unusable_indexes_serve_nothing.Goals as goal

pub returns : goal.returns
returns c = unusable_serve_nothing
