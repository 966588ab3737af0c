use Rattle.sql_meaning.proofs.Asked.{plans_give_the_order}
use Rattle.sql_meaning.proofs.nested_loops.plans_give_the_order.Goals as goal

pub returns : goal.returns
returns c = plans_give_the_order
