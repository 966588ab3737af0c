use Rattle.std.proofs.Common.{◌≡◌, take, map}
use Rattle.bound_rows.specs.Places.{lent}
use Rattle.bound_rows.proofs.sorting.without_keys.Given as goal

abbrev pub invariant-loop-each : goal.invariant-loop-each
invariant-loop-each l = lent l.rows.items ≡ map (λ each. each.places.now) (take l.each-index l.keyed)
