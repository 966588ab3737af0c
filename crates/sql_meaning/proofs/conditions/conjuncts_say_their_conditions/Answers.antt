use Rattle.sql_meaning.proofs.ConditionLaws.{conjuncts_say_their_conditions}
use Rattle.sql_meaning.proofs.conditions.conjuncts_say_their_conditions.Goals as goal

pub returns : goal.returns
returns c = conjuncts_say_their_conditions
