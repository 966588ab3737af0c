-- What each form of a path is seen as.
use Rattle.std.proofs.Common.{◌≡◌, ℕ, Bool, Option, option_map, ap, sym, ◌∙◌, map}
use Rattle.std.proofs.Common.{List, [], ◌∷◌, refl}
use Rattle.std.specs.Borrow.{Bor}
use Rattle.sql_meaning.specs.Paths as plain
use Rattle.plan_form.specs.Paths.{path_of, node_step, list_step, part_of, parts_of, edge_of}
use Rattle.plan_form.specs.Paths.{branches_of, paths}
use Rattle.plan_form.specs.declared.path.EqPart.{EqPart}
use Rattle.plan_form.specs.declared.path.EqParts.{EqParts}
use Rattle.plan_form.specs.declared.path.Edge.{Edge}
use Rattle.plan_form.specs.declared.path.Paths.{Paths}
use Rattle.plan_form.specs.declared.path.Path.TheVariants as variant
use Rattle.plan_form.specs.declared.path.Path.TheViews as views
use Rattle.plan_form.specs.declared.path.Path.TheFolds.{fold-roll-Path, fold-Paths}
use Rattle.plan_form.specs.declared.path.Path.TheFolds.{fold-roll-Paths}
use Rattle.plan_form.specs.declared.path.Path.TheOpen as node
use Rattle.plan_form.specs.declared.path.Path.{Path}
use Rattle.plan_form.specs.declared.path.Path.TheShapes.{former-Paths-branches-at-2}

pub path_of-TableScan : path_of variant.TableScan ≡ plain.TableScan
path_of-TableScan =
    ap path_of (sym views.rolls-TableScan)
    ∙ fold-roll-Path plain.Path plain.Paths node_step list_step node.TableScan

pub path_of-RowidEq : (part : EqPart) → path_of (variant.RowidEq part) ≡ plain.RowidEq (part_of part)
path_of-RowidEq part =
    ap path_of (sym (views.rolls-RowidEq part))
    ∙ fold-roll-Path plain.Path plain.Paths node_step list_step (node.RowidEq part)

pub path_of-RowidRange : (low high : Option Edge)
    → path_of (variant.RowidRange low high)
    ≡ plain.RowidRange (option_map edge_of low) (option_map edge_of high)
path_of-RowidRange low high =
    ap path_of (sym (views.rolls-RowidRange low high))
    ∙ fold-roll-Path plain.Path plain.Paths node_step list_step (node.RowidRange low high)

pub path_of-IndexScan : (index : ℕ) (covering : Bool)
    → path_of (variant.IndexScan index covering) ≡ plain.IndexScan index
path_of-IndexScan index covering =
    ap path_of (sym (views.rolls-IndexScan index covering))
    ∙ fold-roll-Path plain.Path plain.Paths node_step list_step (node.IndexScan index covering)

pub path_of-IndexSeek : (index : ℕ) (covering : Bool) (eqs : EqParts) (low high : Option Edge)
    → path_of (variant.IndexSeek index covering eqs low high)
    ≡ plain.IndexSeek index (parts_of eqs) (option_map edge_of low) (option_map edge_of high)
path_of-IndexSeek index covering eqs low high =
    ap path_of (sym (views.rolls-IndexSeek index covering eqs low high))
    ∙ fold-roll-Path plain.Path plain.Paths node_step list_step
    (node.IndexSeek index covering eqs low high)

-- branches through their references, and then each as plain data
mapped : (rs : List (Bor Path)) →
    map (λ branch. branch.now)
    ((former-Paths-branches-at-2.map Path plain.Path path_of
    (record { ref_ptr = (0, 0); now = rs })).now)
    ≡ map (λ branch. path_of branch.now) rs
mapped [] = refl
mapped (r ∷ rs) = ap (λ ps. path_of r.now ∷ ps) (mapped rs)

-- a list is seen as the list of what is seen of its members
listed : (l : Paths) → fold-Paths plain.Path plain.Paths node_step list_step l ≡ branches_of l
listed l =
    fold-roll-Paths plain.Path plain.Paths node_step list_step (record { branches = l.branches })
    ∙ ap paths (mapped l.branches.now)

pub path_of-Union : (list : Paths) → path_of (variant.Union list) ≡ plain.Union (branches_of list)
path_of-Union list =
    ap path_of (sym (views.rolls-Union list))
    ∙ fold-roll-Path plain.Path plain.Paths node_step list_step (node.Union list)
    ∙ ap plain.Union (listed list)
