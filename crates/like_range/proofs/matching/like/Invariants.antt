use Rattle.std.proofs.Common.{◌≡◌, true, length}
use Rattle.sql_meaning.specs.Likes.{like}
use Rattle.like_range.specs.Fronts.{is_at_percent}
use Rattle.like_range.proofs.matching.like.Given as goal

abbrev pub invariant-loop-at : goal.invariant-loop-at
invariant-loop-at l = record {
  same : like l.text l.pattern ≡ like l.at.text.now l.at.pattern.now;
  percent : is_at_percent l.at.pattern.now ≡ true;
}

abbrev pub decreases-loop-at : goal.decreases-loop-at
decreases-loop-at l = length l.at.pattern.now
