use Rattle.sql_meaning.proofs.Order.{value_cmp_total, ties}
use Rattle.sql_meaning.proofs.values.order_is_total.Goals as goal

pub returns-clause-total : goal.returns-clause-total
returns-clause-total c = value_cmp_total

pub returns-clause-ties : goal.returns-clause-ties
returns-clause-ties c = ties
