use Rattle.std.proofs.Common.{◌≡◌, ◌++◌, drop, map}
use Rattle.std.specs.List.{flat_map}
use Rattle.where_terms.specs.Views.{column_terms_of}
use Rattle.access_paths.specs.Placed.{items_in}
use Rattle.access_paths.specs.NextItems.{setting_for}
use Rattle.access_paths.specs.Offers.{seen_offer}
use Rattle.access_paths.specs.Listed.{told_index}
use Rattle.access_paths.proofs.listing.push_indexes.Given as goal

abbrev pub invariant-loop-index : goal.invariant-loop-index
invariant-loop-index l =
    map seen_offer l.made.items
    ++ flat_map
    (told_index (setting_for l.next) (items_in l.next.placed) l.next.item
    (map column_terms_of l.columns)) (drop l.index-index l.index-items)
    ≡ map seen_offer l.fn.made.items
    ++ flat_map
    (told_index (setting_for l.next) (items_in l.next.placed) l.next.item
    (map column_terms_of l.columns)) l.next.indexes.now
