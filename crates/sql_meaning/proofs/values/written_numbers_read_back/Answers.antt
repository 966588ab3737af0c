use Rattle.sql_meaning.proofs.Reading.{int_back, dec_back}
use Rattle.sql_meaning.proofs.values.written_numbers_read_back.Goals as goal

pub returns-clause-integers : goal.returns-clause-integers
returns-clause-integers c = int_back

pub returns-clause-decimals : goal.returns-clause-decimals
returns-clause-decimals c = dec_back
