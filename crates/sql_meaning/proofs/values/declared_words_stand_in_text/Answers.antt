use Rattle.sql_meaning.proofs.Words.{held_exactly}
use Rattle.sql_meaning.proofs.values.declared_words_stand_in_text.Goals as goal

pub returns : goal.returns
returns c = held_exactly
