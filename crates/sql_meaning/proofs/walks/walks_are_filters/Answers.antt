use Rattle.sql_meaning.proofs.PathLaws.{walks_are_filters, consumed_conjuncts_hold}
use Rattle.sql_meaning.proofs.walks.walks_are_filters.Goals as goal

pub returns-clause-filters : goal.returns-clause-filters
returns-clause-filters c = walks_are_filters

pub returns-clause-consumed : goal.returns-clause-consumed
returns-clause-consumed c = consumed_conjuncts_hold
