use Rattle.list_laws.proofs.Permutations.{IsPermutation-from_tally, SameTally-from_permutation}
use Rattle.list_laws.proofs.members.tallies_tell_permutations.Goals as goal

pub returns-clause-tells : goal.returns-clause-tells
returns-clause-tells g c = IsPermutation-from_tally

pub returns-clause-kept : goal.returns-clause-kept
returns-clause-kept g c = SameTally-from_permutation
