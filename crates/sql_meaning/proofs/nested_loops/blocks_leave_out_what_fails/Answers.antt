use Rattle.sql_meaning.proofs.Blocks.{blocks_leave_out_what_fails}
use Rattle.sql_meaning.proofs.nested_loops.blocks_leave_out_what_fails.Goals as goal

pub returns : goal.returns
returns c = blocks_leave_out_what_fails
