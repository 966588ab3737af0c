-- What a list of members is seen as, and with it each form that has one.
use Rattle.std.proofs.Common.{◌≡◌, Bool, ap, ◌∙◌, sym, map, List, [], ◌∷◌, refl}
use Rattle.std.specs.Borrow.{Bor}
use Rattle.sql_tree.specs.Trees.{Tree, Trees, trees, tree_of, node_step, list_step}
use Rattle.sql_tree.specs.Trees as tree
use Rattle.sql_tree.specs.declared.expression.Expr.{Expr}
use Rattle.sql_tree.specs.declared.expression.Expr.TheVariants as variant
use Rattle.sql_tree.specs.declared.expression.Expr.TheViews.{rolls-All, rolls-Any, rolls-OneOf}
use Rattle.sql_tree.specs.declared.expression.Expr.TheFolds.{fold-roll-Expr, fold-roll-Exprs}
use Rattle.sql_tree.specs.declared.expression.Expr.TheFolds.{fold-Exprs}
use Rattle.sql_tree.specs.declared.expression.Exprs.{Exprs}
use Rattle.sql_tree.specs.declared.expression.Expr.TheOpen as node
use Rattle.sql_tree.specs.declared.expression.Expr.TheShapes.{former-Exprs-members-at-2}

-- the members' trees, in order
abbrev pub member_trees : Exprs → List Tree
member_trees exprs = map tree_of (map (λ member. member.now) exprs.members.now)

-- members through their references, and then each as a tree
mapped : (rs : List (Bor Expr)) →
    map (λ member. member.now)
    ((former-Exprs-members-at-2.map Expr Tree tree_of
    (record { ref_ptr = (0, 0); now = rs })).now)
    ≡ map tree_of (map (λ member. member.now) rs)
mapped [] = refl
mapped (r ∷ rs) = ap (λ xs. tree_of r.now ∷ xs) (mapped rs)

listed : (l : Exprs) → fold-Exprs Tree Trees node_step list_step l ≡ trees (member_trees l)
listed l =
    fold-roll-Exprs Tree Trees node_step list_step (record { members = l.members })
    ∙ ap trees (mapped l.members.now)

pub tree_of-All : (l : Exprs) → tree_of (variant.All l) ≡ tree.All (trees (member_trees l))
tree_of-All l =
    ap tree_of (sym (rolls-All l))
    ∙ fold-roll-Expr Tree Trees node_step list_step (node.All l)
    ∙ ap tree.All (listed l)

pub tree_of-Any : (l : Exprs) → tree_of (variant.Any l) ≡ tree.Any (trees (member_trees l))
tree_of-Any l =
    ap tree_of (sym (rolls-Any l))
    ∙ fold-roll-Expr Tree Trees node_step list_step (node.Any l)
    ∙ ap tree.Any (listed l)

pub tree_of-OneOf : (negated : Bool) (x : Bor Expr) (l : Exprs) →
    tree_of (variant.OneOf negated x l)
    ≡ tree.OneOf negated (tree_of x.now) (trees (member_trees l))
tree_of-OneOf negated x l =
    ap tree_of (sym (rolls-OneOf negated x l))
    ∙ fold-roll-Expr Tree Trees node_step list_step (node.OneOf negated x l)
    ∙ ap (tree.OneOf negated (tree_of x.now)) (listed l)

pub ruleset seen_lists = (tree_of-All, tree_of-Any, tree_of-OneOf)
