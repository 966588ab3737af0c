-- What an OR is seen as.
use Rattle.sql_bound.proofs.Members.{expr_of-All, expr_of-Any, expr_of-OneOf}

pub ruleset seen_lists = (expr_of-All, expr_of-Any, expr_of-OneOf)
