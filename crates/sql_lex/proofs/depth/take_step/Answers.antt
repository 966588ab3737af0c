use Rattle.sql_lex.proofs.LevelStacks.{below_counted}
use Rattle.sql_lex.proofs.depth.take_step.Goals as goal

pub overflow_sub-below : goal.overflow_sub-below
overflow_sub-below c =
    below_counted _ _ _ _ _ c.requires.based c.in-Some.ensures c.in-Some-pop.ensures
