use Rattle.std.proofs.Common.{◌≡◌, map, option_map, take}
use Rattle.sql_bound.specs.Statements.{item_of}
use Rattle.sql_bind.specs.Views.{named_of}
use Rattle.sql_bind.proofs.parts.place_items.Given as goal

abbrev pub invariant-loop-named : goal.invariant-loop-named
invariant-loop-named l =
    (map item_of l.items.items ≡ map (λ n. n.item) (map named_of (take l.named-index l.list)))
    × (map (λ i. option_map (λ alias. alias.now) i.alias) l.items.items
    ≡ map (λ n. n.alias) (map named_of (take l.named-index l.list)))
