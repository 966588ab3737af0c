-- What forms with a list of members are seen as.
use Rattle.sql_bound.proofs.Members.{expr_of-All, expr_of-Any, expr_of-OneOf}
use Rattle.sql_tree.proofs.TreeLists.{tree_of-All, tree_of-Any, tree_of-OneOf}

pub ruleset seen_lists = (expr_of-All, expr_of-Any, expr_of-OneOf)

pub ruleset source_lists = (tree_of-All, tree_of-Any, tree_of-OneOf)
