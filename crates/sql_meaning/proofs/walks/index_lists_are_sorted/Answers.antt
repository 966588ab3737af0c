use Rattle.sql_meaning.proofs.PathLaws.{index_lists_are_sorted}
use Rattle.sql_meaning.proofs.walks.index_lists_are_sorted.Goals as goal

pub returns : goal.returns
returns c = index_lists_are_sorted
