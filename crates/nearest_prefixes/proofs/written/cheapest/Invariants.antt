use Rattle.std.proofs.Common.{◌≡◌, ℕ, List, map}
use Rattle.plan_choice.specs.Prefixes.{OfferedLoop}
use Rattle.nearest_prefixes.specs.Prefixes.{seen_loops, told_loop}
use Rattle.nearest_prefixes.proofs.LightestLoops.{IsBest}
use Rattle.nearest_prefixes.proofs.written.cheapest.Given as goal

abbrev pub invariant-loop-number : goal.invariant-loop-number
invariant-loop-number l =
    (item : ℕ) (ts : List OfferedLoop) → seen_loops item l.offers ≡ map told_loop ts
    → IsBest item ts l.number l.best
