-- What forms with a list of members are seen as.
use Rattle.sql_bound.proofs.Members.{expr_of-All, expr_of-Any, expr_of-OneOf}

pub ruleset seen_lists = (expr_of-All, expr_of-Any, expr_of-OneOf)
