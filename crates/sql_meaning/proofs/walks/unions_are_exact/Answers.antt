use Rattle.sql_meaning.proofs.PathLaws.{unions_have_each_row_once, unions_miss_no_row}
use Rattle.sql_meaning.proofs.walks.unions_are_exact.Goals as goal

pub returns-clause-each_once : goal.returns-clause-each_once
returns-clause-each_once c = unions_have_each_row_once

pub returns-clause-none_missed : goal.returns-clause-none_missed
returns-clause-none_missed c = unions_miss_no_row
