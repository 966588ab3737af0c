-- What a path is seen as: plain data, with values in place of references.
use Rattle.std.specs.Prelude.{option_map, List, [], ◌∷◌, map}
use Rattle.sql_bound.specs.Statements.{key_expr_of, key_exprs_of}
use Rattle.sql_meaning.specs.Paths as plain
use Rattle.plan_form.specs.declared.path.EqPart.{EqPart}
use Rattle.plan_form.specs.declared.path.EqPart.TheVariants as part
use Rattle.plan_form.specs.declared.path.EqParts.{EqParts}
use Rattle.plan_form.specs.declared.path.Edge.{Edge}
use Rattle.plan_form.specs.declared.path.Path.{Path}
use Rattle.plan_form.specs.declared.path.Paths.{Paths}
use Rattle.plan_form.specs.declared.path.Path.TheOpen as node
use Rattle.plan_form.specs.declared.path.Path.TheOpen.{Path-F, Paths-F}
use Rattle.plan_form.specs.declared.path.Path.TheFolds.{fold-Path}

abbrev pub part_of : EqPart → plain.EqPart
part_of (part.One key) = plain.OneKey (key_expr_of key)
part_of (part.Many keys) = plain.ManyKeys (key_exprs_of keys)
part_of part.Null = plain.NullKey

abbrev pub parts_of : EqParts → List plain.EqPart
parts_of parts = map (λ part. part_of part.now) parts.parts.now

abbrev pub edge_of : Edge → plain.Edge
edge_of edge = record { key = key_expr_of edge.key; inclusive = edge.inclusive }

abbrev pub paths : List plain.Path → plain.Paths
paths [] = plain.Nowhere
paths (p ∷ ps) = plain.Then p (paths ps)

-- one layer of a path, its branches already seen as plain data; covering says nothing of its rows
abbrev pub node_step : Path-F plain.Path plain.Paths → plain.Path
node_step node.TableScan = plain.TableScan
node_step (node.RowidEq part) = plain.RowidEq (part_of part)
node_step (node.RowidRange low high) =
    plain.RowidRange (option_map edge_of low) (option_map edge_of high)
node_step (node.IndexScan index covering) = plain.IndexScan index
node_step (node.IndexSeek index covering eqs low high) =
    plain.IndexSeek index (parts_of eqs) (option_map edge_of low) (option_map edge_of high)
node_step (node.Union branches) = plain.Union branches

abbrev pub list_step : Paths-F plain.Path plain.Paths → plain.Paths
list_step list = paths (map (λ branch. branch.now) list.branches.now)

-- contracts speak of a path through this view alone
abbrev pub path_of : Path → plain.Path
path_of = fold-Path plain.Path plain.Paths node_step list_step

-- the branches of a union
abbrev pub branches_of : Paths → plain.Paths
branches_of list = paths (map (λ branch. path_of branch.now) list.branches.now)
