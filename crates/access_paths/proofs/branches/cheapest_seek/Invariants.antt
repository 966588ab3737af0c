use Rattle.std.proofs.Common.{◌≡◌, drop, map, option_map, false}
use Rattle.std.specs.Prelude.{IfSome}
use Rattle.std.specs.List.{flat_map}
use Rattle.plan_choice.specs.Offers.{lightest, branch_seek}
use Rattle.where_terms.specs.Views.{column_terms_of}
use Rattle.access_paths.specs.Placed.{items_in}
use Rattle.access_paths.specs.Seeks.{seen_seek, told_seek, IsPlain}
use Rattle.access_paths.specs.NextItems.{setting_for}
use Rattle.access_paths.specs.Branches.{lighter_of, seen_run, told_in}
use Rattle.access_paths.proofs.branches.cheapest_seek.Given as goal

-- the cheapest so far, and those of the indexes that are left
abbrev pub invariant-loop-index : goal.invariant-loop-index
invariant-loop-index l = record {
  told : lighter_of (seen_run (setting_for l.next) l.next.item) (option_map seen_seek l.best)
      (lightest (seen_run (setting_for l.next) l.next.item)
      (flat_map
      (told_in (setting_for l.next) (items_in l.next.placed) l.next.item
      (map column_terms_of l.columns)) (drop l.index-index l.index-items)))
      ≡ option_map (told_seek false)
      (branch_seek (setting_for l.next) (items_in l.next.placed) l.next.item
      (map column_terms_of l.columns));
  plain : IfSome l.best (IsPlain false);
}
