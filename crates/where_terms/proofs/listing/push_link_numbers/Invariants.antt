use Rattle.std.proofs.Common.{◌≡◌, ◌++◌, drop, map}
use Rattle.std.specs.List.{flat_map}
use Rattle.where_terms.specs.Views.{link_of}
use Rattle.where_terms.specs.Sites.{pair_numbers}
use Rattle.where_terms.proofs.listing.push_link_numbers.Given as goal

abbrev pub invariant-loop-link : goal.invariant-loop-link
invariant-loop-link l =
    l.numbers.items ++ flat_map (pair_numbers l.item) (map link_of (drop l.link-index l.links))
    ≡ l.fn.numbers.items ++ flat_map (pair_numbers l.item) (map link_of l.links)
