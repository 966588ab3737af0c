use Rattle.std.proofs.Common.{◌≡◌, ◌++◌, drop}
use Rattle.sql_meaning.specs.Likes.{plain_front}
use Rattle.like_range.proofs.bounds.plain_front.Given as goal

abbrev pub invariant-loop-byte : goal.invariant-loop-byte
invariant-loop-byte l =
    plain_front l.pattern ≡ l.front ++ plain_front (drop l.byte-index l.pattern)
