-- What a bound expression is seen as: plain data, with values in place of references.
use Rattle.std.specs.Prelude.{option_map, List, [], ◌∷◌, map}
use Rattle.sql_tree.specs.declared.expression.Op.{Op}
use Rattle.sql_tree.specs.declared.expression.Op.TheVariants as op
use Rattle.sql_tree.specs.Trees.{literal_value}
use Rattle.sql_value.specs.View.{plain_affinity, plain_collation}
use Rattle.sql_meaning.specs.Expressions as plain
use Rattle.sql_bound.specs.declared.expression.BExpr.{BExpr}
use Rattle.sql_bound.specs.declared.expression.BExprs.{BExprs}
use Rattle.sql_bound.specs.declared.expression.BExpr.TheOpen as node
use Rattle.sql_bound.specs.declared.expression.BExpr.TheOpen.{BExpr-F, BExprs-F}
use Rattle.sql_bound.specs.declared.expression.BExpr.TheFolds.{fold-BExpr}

abbrev pub plain_op : Op → plain.Op
plain_op op.Eq = plain.IsEqual
plain_op op.Ne = plain.IsUnequal
plain_op op.Lt = plain.IsBelow
plain_op op.Le = plain.IsAtMost
plain_op op.Gt = plain.IsAbove
plain_op op.Ge = plain.IsAtLeast

abbrev pub exprs : List plain.BExpr → plain.BExprs
exprs [] = plain.Nil
exprs (e ∷ es) = plain.More e (exprs es)

-- one layer of an expression, its parts already seen as plain data
abbrev pub node_step : BExpr-F plain.BExpr plain.BExprs → plain.BExpr
node_step (node.Lit constant) = plain.Lit (literal_value constant)
node_step (node.Param number) = plain.Param number
node_step (node.Column item column) = plain.Column item column
node_step (node.Rowid item) = plain.Rowid item
node_step (node.Plus e) = plain.Plus e.now
node_step (node.Collate e coll) = plain.Collate e.now (plain_collation coll)
node_step (node.Cmp op left right conv coll) =
    plain.Cmp (plain_op op) left.now right.now
    (option_map plain_affinity conv.left) (option_map plain_affinity conv.right)
    (plain_collation coll)
node_step (node.OneOf negated left entries conv coll) =
    plain.OneOf negated left.now entries (option_map plain_affinity conv) (plain_collation coll)
node_step (node.Like negated e pattern) = plain.Like negated e.now pattern.now
node_step (node.IsNull negated e) = plain.IsNull negated e.now
node_step (node.Not e) = plain.Not e.now
node_step (node.All members) = plain.All members
node_step (node.Any members) = plain.Any members

abbrev pub list_step : BExprs-F plain.BExpr plain.BExprs → plain.BExprs
list_step list = exprs (map (λ member. member.now) list.members.now)

-- contracts speak of an expression through this view alone
abbrev pub expr_of : BExpr → plain.BExpr
expr_of = fold-BExpr plain.BExpr plain.BExprs node_step list_step

-- the members of a form that has a list of them
abbrev pub members_of : BExprs → plain.BExprs
members_of list = exprs (map expr_of (map (λ member. member.now) list.members.now))
