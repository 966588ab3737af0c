-- What a list of members is seen as, and with it each form that has one.
use Rattle.std.proofs.Common.{◌≡◌, Bool, Option, option_map, ap, ◌∙◌, sym, map, List, [], ◌∷◌, refl}
use Rattle.std.specs.Borrow.{Bor}
use Rattle.sql_value.specs.declared.values.Affinity.{Affinity}
use Rattle.sql_value.specs.declared.values.Collation.{Collation}
use Rattle.sql_value.specs.declared.values.Conversions.{Conversions}
use Rattle.sql_tree.specs.declared.expression.Op.{Op}
use Rattle.sql_value.specs.View.{plain_affinity, plain_collation}
use Rattle.sql_meaning.specs.Expressions as plain
use Rattle.sql_bound.specs.Expressions.{exprs, expr_of, plain_op, node_step, list_step, members_of}
use Rattle.sql_bound.specs.declared.expression.BExpr.{BExpr}
use Rattle.sql_bound.specs.declared.expression.BExpr.TheVariants as variant
use Rattle.sql_bound.specs.declared.expression.BExpr.TheViews.{rolls-All, rolls-Any}
use Rattle.sql_bound.specs.declared.expression.BExpr.TheViews.{rolls-OneOf, rolls-Cmp, rolls-Like}
use Rattle.sql_bound.specs.declared.expression.BExpr.TheFolds.{fold-roll-BExpr, fold-BExprs}
use Rattle.sql_bound.specs.declared.expression.BExpr.TheFolds.{fold-roll-BExprs}
use Rattle.sql_bound.specs.declared.expression.BExprs.{BExprs}
use Rattle.sql_bound.specs.declared.expression.BExpr.TheOpen as node
use Rattle.sql_bound.specs.declared.expression.BExpr.TheShapes.{former-BExprs-members-at-2}

-- the members of references, which a loop over them has yet to look at
abbrev pub plain_members : List (Bor BExpr) → plain.BExprs
plain_members rs = exprs (map expr_of (map (λ member. member.now) rs))

-- members through their references, and then each as plain data
mapped : (rs : List (Bor BExpr)) →
    map (λ member. member.now)
    ((former-BExprs-members-at-2.map BExpr plain.BExpr expr_of
    (record { ref_ptr = (0, 0); now = rs })).now)
    ≡ map expr_of (map (λ member. member.now) rs)
mapped [] = refl
mapped (r ∷ rs) = ap (λ xs. expr_of r.now ∷ xs) (mapped rs)

listed : (l : BExprs) → fold-BExprs plain.BExpr plain.BExprs node_step list_step l ≡ members_of l
listed l =
    fold-roll-BExprs plain.BExpr plain.BExprs node_step list_step (record { members = l.members })
    ∙ ap exprs (mapped l.members.now)

pub expr_of-All : (l : BExprs) → expr_of (variant.All l) ≡ plain.All (members_of l)
expr_of-All l =
    ap expr_of (sym (rolls-All l))
    ∙ fold-roll-BExpr plain.BExpr plain.BExprs node_step list_step (node.All l)
    ∙ ap plain.All (listed l)

pub expr_of-Any : (l : BExprs) → expr_of (variant.Any l) ≡ plain.Any (members_of l)
expr_of-Any l =
    ap expr_of (sym (rolls-Any l))
    ∙ fold-roll-BExpr plain.BExpr plain.BExprs node_step list_step (node.Any l)
    ∙ ap plain.Any (listed l)

pub expr_of-OneOf : (negated : Bool) (left : Bor BExpr) (l : BExprs) (conv : Option Affinity)
    (coll : Collation)
    → expr_of (variant.OneOf negated left l conv coll)
    ≡ plain.OneOf negated (expr_of left.now) (members_of l) (option_map plain_affinity conv)
    (plain_collation coll)
expr_of-OneOf negated left l conv coll =
    ap expr_of (sym (rolls-OneOf negated left l conv coll))
    ∙ fold-roll-BExpr plain.BExpr plain.BExprs node_step list_step
    (node.OneOf negated left l conv coll)
    ∙ ap
    (λ es. plain.OneOf negated (expr_of left.now) es (option_map plain_affinity conv)
    (plain_collation coll)) (listed l)

pub expr_of-Cmp : (op : Op) (left right : Bor BExpr) (conv : Conversions) (coll : Collation)
    → expr_of (variant.Cmp op left right conv coll)
    ≡ plain.Cmp (plain_op op) (expr_of left.now) (expr_of right.now)
    (option_map plain_affinity conv.left) (option_map plain_affinity conv.right)
    (plain_collation coll)
expr_of-Cmp op left right conv coll =
    ap expr_of (sym (rolls-Cmp op left right conv coll))
    ∙ fold-roll-BExpr plain.BExpr plain.BExprs node_step list_step
    (node.Cmp op left right conv coll)

pub expr_of-Like : (negated : Bool) (left pattern : Bor BExpr)
    → expr_of (variant.Like negated left pattern)
    ≡ plain.Like negated (expr_of left.now) (expr_of pattern.now)
expr_of-Like negated left pattern =
    ap expr_of (sym (rolls-Like negated left pattern))
    ∙ fold-roll-BExpr plain.BExpr plain.BExprs node_step list_step
    (node.Like negated left pattern)

pub ruleset seen_lists = (expr_of-All, expr_of-Any, expr_of-OneOf)
