use Rattle.list_laws.proofs.Nests.{block_permutes}
use Rattle.list_laws.proofs.WeighedNests.{block_weighs}
use Rattle.list_laws.proofs.loops.blocks_leave_out_what_fails.Goals as goal

pub returns-clause-permuted : goal.returns-clause-permuted
returns-clause-permuted g c = λ free. block_permutes

pub returns-clause-weighed : goal.returns-clause-weighed
returns-clause-weighed g c = λ free. block_weighs
