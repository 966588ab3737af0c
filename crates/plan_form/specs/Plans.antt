-- What a plan is seen as.
use Rattle.std.specs.Prelude.{map, Bool, false, List}
use Rattle.sql_bound.specs.Statements.{bound_of}
use Rattle.sql_meaning.specs.Plans as plain
use Rattle.plan_form.specs.Paths.{path_of}
use Rattle.plan_form.specs.declared.path.Path.{Path}
use Rattle.plan_form.specs.declared.path.Path.TheOpen as node
use Rattle.plan_form.specs.declared.path.Path.TheOpen.{Path-F, Paths-F}
use Rattle.plan_form.specs.declared.path.Path.TheFolds.{fold-Path}
use Rattle.plan_form.specs.declared.plan.Loop.{Loop}
use Rattle.plan_form.specs.declared.plan.Plan.{Plan}

abbrev pub loop_of : Loop → plain.Loop
loop_of l = record {
  item = l.item;
  path = path_of l.path.now;
  reverse = l.reverse;
  consumed = l.consumed.now;
}

-- contracts speak of a plan through this view alone
abbrev pub plan_of : Plan → plain.Plan
plan_of p = record {
  bound = bound_of p.bound.now;
  loops = map loop_of p.loops.now;
  sort = p.sort;
}

abbrev pub node_covers : Path-F Bool Bool → Bool
node_covers node.TableScan = false
node_covers (node.RowidEq part) = false
node_covers (node.RowidRange low high) = false
node_covers (node.IndexScan index covering) = covering
node_covers (node.IndexSeek index covering eqs low high) = covering
node_covers (node.Union branches) = false

abbrev pub none_covers : Paths-F Bool Bool → Bool
none_covers list = false

-- the index of the path has all columns that the statement needs, so that the table isn't read
abbrev pub covers : Path → Bool
covers = fold-Path Bool Bool node_covers none_covers

-- of each loop
abbrev pub covering_of : Plan → List Bool
covering_of p = map (λ l. covers l.path.now) p.loops.now
