use Rattle.sql_meaning.proofs.Bounds.{converted_is_value}
use Rattle.sql_meaning.proofs.Conversions.{converted_is_fixed, converted_same, read_text_same}
use Rattle.sql_meaning.proofs.values.conversions_settle.Goals as goal

pub returns-clause-fixed : goal.returns-clause-fixed
returns-clause-fixed c = converted_is_fixed

pub returns-clause-numbers : goal.returns-clause-numbers
returns-clause-numbers c = converted_same

pub returns-clause-texts : goal.returns-clause-texts
returns-clause-texts c = read_text_same

pub returns-clause-bounds : goal.returns-clause-bounds
returns-clause-bounds c = converted_is_value
