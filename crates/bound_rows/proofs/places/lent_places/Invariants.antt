use Rattle.std.proofs.Common.{◌≡◌, take}
use Rattle.bound_rows.specs.Places.{held, lent}
use Rattle.bound_rows.proofs.places.lent_places.Given as goal

abbrev pub invariant-loop-places : goal.invariant-loop-places
invariant-loop-places l = lent l.lent.items ≡ held (take l.places-index l.lists)
