use Rattle.sql_meaning.proofs.Evaluation.{ev_same}
use Rattle.sql_meaning.proofs.conditions.values_depend_on_named_items.Goals as goal

pub returns : goal.returns
returns c = ev_same
