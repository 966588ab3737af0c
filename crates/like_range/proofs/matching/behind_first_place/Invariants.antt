use Rattle.std.proofs.Common.{◌≡◌, ◌∷◌, length}
use Rattle.sql_meaning.specs.Likes.{like}
use Rattle.like_range.proofs.matching.behind_first_place.Given as goal

abbrev pub invariant-loop-rest : goal.invariant-loop-rest
invariant-loop-rest l = like l.text (37 ∷ l.pattern) ≡ like l.from (37 ∷ l.pattern)

abbrev pub decreases-loop-rest : goal.decreases-loop-rest
decreases-loop-rest l = length l.from
