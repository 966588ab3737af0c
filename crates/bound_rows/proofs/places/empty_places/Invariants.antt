use Rattle.std.proofs.Common.{◌≡◌, take}
use Rattle.bound_rows.specs.Places.{empty_places}
use Rattle.bound_rows.proofs.places.empty_places.Given as goal

abbrev pub invariant-loop-item : goal.invariant-loop-item
invariant-loop-item l = l.places.items ≡ empty_places (take l.item-index l.item-items)
