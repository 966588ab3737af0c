-- LIKE, and the bounds of all texts that are like a pattern (lang_expr; optoverview, "The LIKE
-- optimization").
use Rattle.std.specs.Prelude.{ℕ, ◌+◌, ◌==◌, nat_le, Bool, true, false, ◌&&◌, ◌||◌, cond, List, []}
use Rattle.std.specs.Prelude.{◌∷◌, Option, Some, None}
use Rattle.std.specs.Option.{option_map}
use Rattle.sql_meaning.specs.Letters.{folded}
use Rattle.sql_meaning.specs.Values.{Value, is_null, Text, TextAffinity}
use Rattle.sql_meaning.specs.Conversions.{converted}

-- what a byte of a pattern stands for: `%` for any bytes, `_` for one character, any other byte for
-- itself with letters folded
pub data Wildcard : Type 0 where
  AnyBytes : Wildcard
  AnyCharacter : Wildcard
  JustByte : (byte : ℕ) → Wildcard

abbrev pub wildcard : ℕ → Wildcard
wildcard byte = cond (byte == 37) AnyBytes (cond (byte == 95) AnyCharacter (JustByte byte))

-- a byte 0x80 to 0xBF, which goes on with the character of the byte before it
abbrev pub continues : ℕ → Bool
continues byte = nat_le 128 byte && nat_le byte 191

abbrev pub without_continuing : List ℕ → List ℕ
without_continuing [] = []
without_continuing (b ∷ bs) = cond (continues b) (without_continuing bs) (b ∷ bs)

-- the test holds of the text or of what follows some of its bytes
abbrev pub some_rest : (List ℕ → Bool) → List ℕ → Bool
some_rest test [] = test []
some_rest test (b ∷ bs) = test (b ∷ bs) || some_rest test bs

-- the text begins as this says, and the test holds of what follows
abbrev pub fits_front : Wildcard → (List ℕ → Bool) → List ℕ → Bool
fits_front AnyBytes test text = some_rest test text
fits_front AnyCharacter test [] = false
fits_front AnyCharacter test (b ∷ bs) = test (without_continuing bs)
fits_front (JustByte byte) test [] = false
fits_front (JustByte byte) test (b ∷ bs) = (folded b == folded byte) && test bs

abbrev pub no_bytes : List ℕ → Bool
no_bytes [] = true
no_bytes (b ∷ bs) = false

-- the whole text is like the pattern
abbrev pub like : List ℕ → List ℕ → Bool
like text [] = no_bytes text
like text (p ∷ ps) = fits_front (wildcard p) (λ rest. like rest ps) text

-- of two texts; no blob is like anything, nor anything like a blob
abbrev pub texts_like : Value → Value → Bool
texts_like (Text text) (Text pattern) = like text pattern
texts_like v w = false

-- unknown where a side is NULL; else of both sides converted by TEXT
abbrev pub like3 : Value → Value → Option Bool
like3 v pattern =
    cond (is_null v || is_null pattern) None
    (Some (texts_like (converted TextAffinity v) (converted TextAffinity pattern)))

-- from `low` on, and below `high`
pub record Range : Type 0 where
  pub low : List ℕ
  pub high : Option (List ℕ)

abbrev pub front_with : Wildcard → List ℕ → List ℕ
front_with AnyBytes rest = []
front_with AnyCharacter rest = []
front_with (JustByte byte) rest = folded byte ∷ rest

-- the pattern up to its first `%` or `_`, with letters folded
abbrev pub plain_front : List ℕ → List ℕ
plain_front [] = []
plain_front (p ∷ ps) = front_with (wildcard p) (plain_front ps)

-- with the last byte raised by one, where that is a byte
abbrev pub raised : List ℕ → Option (List ℕ)
raised [] = None
raised (b ∷ []) = cond (b == 255) None (Some ((b + 1) ∷ []))
raised (b ∷ c ∷ bs) = option_map (λ rest. b ∷ rest) (raised (c ∷ bs))

abbrev pub range_from : List ℕ → Option Range
range_from [] = None
range_from (b ∷ bs) = Some (record { low = b ∷ bs; high = raised (b ∷ bs) })

-- none where the pattern is empty or begins with `%` or `_`
abbrev pub like_bounds : List ℕ → Option Range
like_bounds pattern = range_from (plain_front pattern)
