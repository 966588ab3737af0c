-- What the forms of an expression with parts are seen as.
use Rattle.std.proofs.Common.{◌≡◌, Bool, List, ℕ, ap, ◌∙◌, sym}
use Rattle.std.specs.Borrow.{Bor}
use Rattle.sql_tree.specs.Trees.{Tree, Trees, tree_of, node_step, list_step}
use Rattle.sql_tree.specs.Trees as tree
use Rattle.sql_tree.specs.declared.expression.Op.{Op}
use Rattle.sql_tree.specs.declared.expression.Expr.{Expr}
use Rattle.sql_tree.specs.declared.expression.Expr.TheVariants as variant
use Rattle.sql_tree.specs.declared.expression.Expr.TheViews.{rolls-Cmp, rolls-Between}
use Rattle.sql_tree.specs.declared.expression.Expr.TheViews.{rolls-Collate, rolls-Like}
use Rattle.sql_tree.specs.declared.expression.Expr.TheFolds.{fold-roll-Expr}
use Rattle.sql_tree.specs.declared.expression.Expr.TheOpen as node

pub tree_of-Collate : (x : Bor Expr) (name : Bor (List ℕ))
    → tree_of (variant.Collate x name) ≡ tree.Collate (tree_of x.now) name.now
tree_of-Collate x name =
    ap tree_of (sym (rolls-Collate x name))
    ∙ fold-roll-Expr Tree Trees node_step list_step (node.Collate x name)

pub tree_of-Cmp : (op : Op) (x y : Bor Expr)
    → tree_of (variant.Cmp op x y) ≡ tree.Cmp op (tree_of x.now) (tree_of y.now)
tree_of-Cmp op x y =
    ap tree_of (sym (rolls-Cmp op x y))
    ∙ fold-roll-Expr Tree Trees node_step list_step (node.Cmp op x y)

pub tree_of-Between : (negated : Bool) (x low high : Bor Expr)
    → tree_of (variant.Between negated x low high)
    ≡ tree.Between negated (tree_of x.now) (tree_of low.now) (tree_of high.now)
tree_of-Between negated x low high =
    ap tree_of (sym (rolls-Between negated x low high))
    ∙ fold-roll-Expr Tree Trees node_step list_step (node.Between negated x low high)

pub tree_of-Like : (negated : Bool) (x pattern : Bor Expr)
    → tree_of (variant.Like negated x pattern)
    ≡ tree.Like negated (tree_of x.now) (tree_of pattern.now)
tree_of-Like negated x pattern =
    ap tree_of (sym (rolls-Like negated x pattern))
    ∙ fold-roll-Expr Tree Trees node_step list_step (node.Like negated x pattern)
