use Rattle.sql_meaning.proofs.Reading.{complete, sound, one_number, read_is_value}
use Rattle.sql_meaning.proofs.values.numbers_are_read.Goals as goal

pub returns-clause-exactly : goal.returns-clause-exactly
returns-clause-exactly c = λ text v. (complete text v, sound text v)

pub returns-clause-one_number : goal.returns-clause-one_number
returns-clause-one_number c = one_number

pub returns-clause-bounds : goal.returns-clause-bounds
returns-clause-bounds c = read_is_value
