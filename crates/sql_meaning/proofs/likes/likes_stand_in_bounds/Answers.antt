use Rattle.sql_meaning.proofs.LikeLaws.{likes_stand_in_bounds, likes_ignore_case}
use Rattle.sql_meaning.proofs.LikeLaws.{characters_stay_whole}
use Rattle.sql_meaning.proofs.likes.likes_stand_in_bounds.Goals as goal

pub returns-clause-within : goal.returns-clause-within
returns-clause-within c = likes_stand_in_bounds

pub returns-clause-letters : goal.returns-clause-letters
returns-clause-letters c = likes_ignore_case

pub returns-clause-characters : goal.returns-clause-characters
returns-clause-characters c = characters_stay_whole
