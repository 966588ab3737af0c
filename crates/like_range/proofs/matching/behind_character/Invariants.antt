use Rattle.std.proofs.Common.{◌≡◌, length}
use Rattle.sql_meaning.specs.Likes.{without_continuing}
use Rattle.like_range.proofs.matching.behind_character.Given as goal

abbrev pub invariant-loop-rest : goal.invariant-loop-rest
invariant-loop-rest l =
    without_continuing l.rest ≡ without_continuing l.text

abbrev pub decreases-loop-rest : goal.decreases-loop-rest
decreases-loop-rest l = length l.rest
