use Rattle.std.proofs.Common.{◌≤◌, length}
use Rattle.like_range.specs.Fronts.{Leaves}
use Rattle.like_range.proofs.matching.behind_front.Given as goal

abbrev pub invariant-loop-front : goal.invariant-loop-front
invariant-loop-front l = record {
  left : Leaves l.text l.pattern l.rest l.front;
  shorter : length l.front ≤ length l.pattern;
}

abbrev pub decreases-loop-front : goal.decreases-loop-front
decreases-loop-front l = length l.front
