use Rattle.std.proofs.Common.{◌≡◌, ◌++◌, drop, option_map, false}
use Rattle.std.specs.List.{AllByRecursion}
use Rattle.sql_meaning.specs.Paths.{is_union}
use Rattle.plan_choice.specs.Offers.{union_seeks}
use Rattle.where_terms.specs.Views.{branches_of}
use Rattle.access_paths.specs.Placed.{items_in}
use Rattle.access_paths.specs.Supplies.{AreReady}
use Rattle.access_paths.specs.NextItems.{setting_for}
use Rattle.access_paths.specs.Branches.{lent_paths, seek_paths}
use Rattle.access_paths.proofs.branches.branch_paths.Given as goal

-- the paths so far, and those of the branches that are left
abbrev pub invariant-loop-columns : goal.invariant-loop-columns
invariant-loop-columns l = record {
  told : option_map (λ ks. lent_paths l.paths.items ++ seek_paths ks)
      (union_seeks (setting_for l.next) (items_in l.next.placed) l.next.item
      (branches_of (drop l.columns-index l.branches)))
      ≡ option_map seek_paths
      (union_seeks (setting_for l.next) (items_in l.next.placed) l.next.item
      (branches_of l.branches));
  plain : AllByRecursion (λ path. is_union path ≡ false) (lent_paths l.paths.items);
  ready : AllByRecursion (λ columns. AreReady columns.now) (drop l.columns-index l.branches);
}
