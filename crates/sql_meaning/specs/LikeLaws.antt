-- What LIKE does with letters and characters, and where texts stand that are like a pattern.
use Rattle.std.specs.Prelude.{◌≡◌, true, List, ℕ, ◌∷◌, ◌++◌, Some, IfSome}
use Rattle.std.specs.List.{AllByRecursion}
use Rattle.sql_meaning.specs.Letters.{folded_bytes}
use Rattle.sql_meaning.specs.Values.{Before, Nocase, Text}
use Rattle.sql_meaning.specs.Likes.{like, continues, without_continuing, Range, like_bounds}

-- under NOCASE a text that is like a pattern isn't before its lower bound, and is before its upper
-- one
abbrev pub LikesStandInBounds : Type 0
LikesStandInBounds =
    (text pattern : List ℕ) (range : Range) → like text pattern ≡ true
    → like_bounds pattern ≡ Some range
    → (Before Nocase (Text text) (Text range.low) → ⊥)
    × IfSome range.high (λ high. Before Nocase (Text text) (Text high))

-- a text is like just what it is like with its letters made lower
abbrev pub LikesIgnoreCase : Type 0
LikesIgnoreCase =
    (text pattern : List ℕ) → like (folded_bytes text) pattern ≡ like text pattern

-- `_` takes a byte with all bytes that go on with its character
abbrev pub CharactersStayWhole : Type 0
CharactersStayWhole =
    (byte : ℕ) (more rest pattern : List ℕ)
    → AllByRecursion (λ b. continues b ≡ true) more → without_continuing rest ≡ rest
    → like (byte ∷ more ++ rest) (95 ∷ pattern) ≡ like rest pattern
