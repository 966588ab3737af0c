use Rattle.list_laws.proofs.Arrangements.{Rearranges-append, Rearranges-from_permutation}
use Rattle.list_laws.proofs.loops.free_items_change_places.Goals as goal

pub returns-clause-any_order : goal.returns-clause-any_order
returns-clause-any_order c = Rearranges-from_permutation

pub returns-clause-beside : goal.returns-clause-beside
returns-clause-beside c = Rearranges-append
