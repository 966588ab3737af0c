use Rattle.grammar_laws.proofs.LevelMarks.{operand_level, member_level, conjunction_level}
use Rattle.grammar_laws.proofs.levels.levels_split_at_one_place.Goals as goal

pub returns-clause-operand : goal.returns-clause-operand
returns-clause-operand c = operand_level

pub returns-clause-member : goal.returns-clause-member
returns-clause-member c = member_level

pub returns-clause-conjunction : goal.returns-clause-conjunction
returns-clause-conjunction c = conjunction_level
