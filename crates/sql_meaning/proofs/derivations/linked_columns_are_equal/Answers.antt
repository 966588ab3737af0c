use Rattle.sql_meaning.proofs.LinkClosure.{lists_have_the_linked_columns}
use Rattle.sql_meaning.proofs.TermLaws.{linked_columns_are_equal}
use Rattle.sql_meaning.proofs.derivations.linked_columns_are_equal.Goals as goal

pub returns-clause-equal : goal.returns-clause-equal
returns-clause-equal c = linked_columns_are_equal

pub returns-clause-listed : goal.returns-clause-listed
returns-clause-listed c = lists_have_the_linked_columns
