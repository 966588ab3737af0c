use Rattle.sql_meaning.proofs.Asked.{loops_give_the_rows}
use Rattle.sql_meaning.proofs.nested_loops.loops_give_the_rows.Goals as goal

pub returns : goal.returns
returns c = loops_give_the_rows
