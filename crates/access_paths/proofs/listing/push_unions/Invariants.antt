use Rattle.std.proofs.Common.{◌≡◌, ◌++◌, drop, map}
use Rattle.std.specs.List.{AllByRecursion, flat_map}
use Rattle.where_terms.specs.Views.{or_term_of}
use Rattle.access_paths.specs.Placed.{items_in}
use Rattle.access_paths.specs.Supplies.{OrIsReady}
use Rattle.access_paths.specs.NextItems.{setting_for}
use Rattle.access_paths.specs.Offers.{seen_offer}
use Rattle.access_paths.specs.Listed.{told_union}
use Rattle.access_paths.proofs.listing.push_unions.Given as goal

abbrev pub invariant-loop-term : goal.invariant-loop-term
invariant-loop-term l = record {
  told : map seen_offer l.made.items
      ++ flat_map (told_union (setting_for l.next) (items_in l.next.placed) l.next.item)
      (map or_term_of (drop l.term-index l.ors))
      ≡ map seen_offer l.fn.made.items
      ++ flat_map (told_union (setting_for l.next) (items_in l.next.placed) l.next.item)
      (map or_term_of l.ors);
  ready : AllByRecursion OrIsReady (drop l.term-index l.ors);
}
