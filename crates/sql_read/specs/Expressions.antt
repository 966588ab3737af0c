-- One reader for each level of expressions.
use Rattle.std.specs.Prelude.{ℕ, suc, zero, Bool, true, false, None, Some, List, [], ◌∷◌}
use Rattle.sql_tree.specs.Trees.{Tree, Trees, trees}
use Rattle.sql_tree.specs.Trees as tree
use Rattle.sql_meaning.specs.Values as value
use Rattle.sql_tree.specs.declared.expression.Op.{Op}
use Rattle.sql_tree.specs.declared.expression.Op.TheVariants as op
use Rattle.sql_read.specs.declared.lexeme.Mark.{Mark}
use Rattle.sql_read.specs.declared.lexeme.Mark.TheVariants as mark
use Rattle.sql_read.specs.declared.follow.Follow.{Follow}
use Rattle.sql_read.specs.declared.follow.Follow.TheVariants as follow
use Rattle.sql_read.specs.declared.levels.Joint.{Joint}
use Rattle.sql_read.specs.declared.levels.Joint.TheVariants as joint
use Rattle.sql_read.specs.declared.levels.Nested.{Nested}
use Rattle.sql_read.specs.declared.levels.Nested.TheVariants as nested
use Rattle.sql_read.specs.Reading.{◌>>=◌, branch, Reader, after, list_at}
use Rattle.sql_read.specs.Leaves.{leaf_at, number_at, collated_at}

unfoldable pub op_at : Reader Op
op_at ts =
    branch (after mark.Eq ts)
    (branch (after mark.EqEq ts)
    (branch (after mark.Ne ts)
    (branch (after mark.Lt ts)
    (branch (after mark.Le ts)
    (branch (after mark.Gt ts)
    (branch (after mark.Ge ts) None (λ r. Some (op.Ge, r)))
    (λ r. Some (op.Gt, r)))
    (λ r. Some (op.Le, r)))
    (λ r. Some (op.Lt, r)))
    (λ r. Some (op.Ne, r)))
    (λ r. Some (op.Eq, r)))
    (λ r. Some (op.Eq, r))

-- NULL, as the end of IS NULL, IS NOT NULL or NOT NULL
unfoldable pub null_at : Bool → Reader Bool
null_at negated ts = branch (after mark.Null ts) None (λ r. Some (negated, r))

-- what follows IS
unfoldable pub is_at : Reader Bool
is_at ts = branch (after mark.Not ts) (null_at false ts) (λ r. null_at true r)

-- a test for NULL: whether it is the negated one
unfoldable pub null_test_at : Reader Bool
null_test_at ts =
    branch (after mark.Isnull ts)
    (branch (after mark.Notnull ts)
    (branch (after mark.Is ts)
    (branch (after mark.Not ts) None (λ r. null_at true r))
    (λ r. is_at r))
    (λ r. Some (true, r)))
    (λ r. Some (false, r))

-- BETWEEN, IN or LIKE, which NOT may stand before
unfoldable pub word_test_at : Bool → Reader Follow
word_test_at negated ts =
    branch (after mark.Between ts)
    (branch (after mark.Like ts)
    (branch (after mark.In ts) None (λ r. Some (follow.OneOf negated, r)))
    (λ r. Some (follow.Like negated, r)))
    (λ r. Some (follow.Between negated, r))

-- which test begins behind its first operand, if one does
unfoldable pub follow_at : Reader Follow
follow_at ts =
    branch (op_at ts)
    (branch (null_test_at ts)
    (branch (after mark.Not ts) (word_test_at false ts) (λ r. word_test_at true r))
    (λ n. Some (follow.Null n.0, n.1)))
    (λ o. Some (follow.Cmp o.0, o.1))

-- one member adds no node
abbrev pub joined : (Trees → Tree) → List Tree → Tree
joined join [] = tree.Lit value.Null
joined join (x ∷ []) = x
joined join (x ∷ y ∷ ys) = join (trees (x ∷ y ∷ ys))

-- the readers of what stands a level deeper
pub record Below : Type 0 where
  pub expr : Reader Tree
  pub not : Reader Tree
  pub operand : Reader Tree

-- the reader of what stands a level deeper
abbrev pub nested_at : Below → Nested → Reader Tree
nested_at b nested.Expr = b.expr
nested_at b nested.Not = b.not
nested_at b nested.Operand = b.operand

-- what stands up to the closing parenthesis
unfoldable pub enclosed_at : {A : Type 0} → Reader A → Reader A
enclosed_at p ts = p ts >>= λ x. branch (after mark.Close x.1) None (λ r. Some (x.0, r))

unfoldable pub primary_at : Below → Reader Tree
primary_at b ts =
    branch (after mark.Open ts)
    (branch (after mark.Null ts)
    (branch (after mark.Minus ts) (leaf_at ts) (λ r. number_at true r))
    (λ r. Some (tree.Lit value.Null, r)))
    (λ r. enclosed_at b.expr r)

unfoldable pub operand_at : Below → Reader Tree
operand_at b ts =
    branch (after mark.Plus ts)
    (primary_at b ts >>= λ x. collated_at x.0 x.1)
    (λ r. b.operand r >>= λ x. Some (tree.Plus x.0, x.1))

-- the right side of a comparison
unfoldable pub right_at : Below → Op → Tree → Reader Tree
right_at b o left ts = operand_at b ts >>= λ x. Some (tree.Cmp o left x.0, x.1)

-- the bounds of BETWEEN
unfoldable pub between_at : Below → Bool → Tree → Reader Tree
between_at b negated x ts =
    operand_at b ts >>= λ low. branch (after mark.And low.1) None (λ r. operand_at b r >>= λ high.
    Some (tree.Between negated x low.0 high.0, high.1))

-- the pattern of LIKE
unfoldable pub like_at : Below → Bool → Tree → Reader Tree
like_at b negated left ts =
    operand_at b ts >>= λ pattern. Some (tree.Like negated left pattern.0, pattern.1)

-- the entries of IN, none or more, up to the closing parenthesis
unfoldable pub entries_at : Below → Reader (List Tree)
entries_at b ts =
    branch (after mark.Close ts) (enclosed_at (list_at b.expr (after mark.Comma) b.expr) ts)
    (λ r. Some ([], r))

unfoldable pub one_of_at : Below → Bool → Tree → Reader Tree
one_of_at b negated left ts =
    branch (after mark.Open ts) None (λ r. entries_at b r >>= λ xs.
    Some (tree.OneOf negated left (trees xs.0), xs.1))

-- the rest of a test
unfoldable pub tested_at : Below → Tree → Follow → Reader Tree
tested_at b left (follow.Cmp o) ts = right_at b o left ts
tested_at b left (follow.Null negated) ts = Some (tree.IsNull negated left, ts)
tested_at b left (follow.Between negated) ts = between_at b negated left ts
tested_at b left (follow.OneOf negated) ts = one_of_at b negated left ts
tested_at b left (follow.Like negated) ts = like_at b negated left ts

unfoldable pub test_at : Below → Reader Tree
test_at b ts =
    operand_at b ts >>= λ x. branch (follow_at x.1) (Some x) (λ f. tested_at b x.0 f.0 f.1)

unfoldable pub not_at : Below → Reader Tree
not_at b ts = branch (after mark.Not ts) (test_at b ts)
    (λ r. b.not r >>= λ x. Some (tree.Not x.0, x.1))

unfoldable pub and_at : Below → Reader Tree
and_at b ts = list_at (not_at b) (after mark.And) (not_at b) ts >>= λ xs.
    Some (joined tree.All xs.0, xs.1)

unfoldable pub expr_at : Below → Reader Tree
expr_at b ts = list_at (and_at b) (after mark.Or) (and_at b) ts >>= λ xs.
    Some (joined tree.Any xs.0, xs.1)

-- what stands between two such marks
unfoldable pub member_at : Below → Joint → Reader Tree
member_at b joint.Comma = b.expr
member_at b joint.And = not_at b
member_at b joint.Or = and_at b

abbrev pub joint_mark : Joint → Mark
joint_mark joint.Comma = mark.Comma
joint_mark joint.And = mark.And
joint_mark joint.Or = mark.Or

-- the readers of a depth
unfoldable pub below : ℕ → Below
below zero = record { expr = λ ts. None; not = λ ts. None; operand = λ ts. None }
below (suc n) = record {
  expr = expr_at (below n);
  not = not_at (below n);
  operand = operand_at (below n);
}
