-- What the bad tokens are that hold a whole form which went wrong.
use Rattle.std.specs.Prelude.{ℕ, ◌≡◌, ◌+◌, ◌≤◌, ◌||◌, ◌⊎◌, true, false, List, length}
use Rattle.std.specs.Prelude.{take, drop}
use Rattle.sql_tokens.specs.Runs.{begins}
use Rattle.token_laws.specs.Forms.{Closed, number, word_bytes, bracketed}
use Rattle.token_laws.specs.Kinds.{IsLongest, IsBlobOf, IsNumbered}

-- no such quote closes
abbrev pub IsOpen : ℕ → List ℕ → Type 0
IsOpen q bytes = (m : ℕ) → ¬ Closed q bytes m

-- such a quote, and none that closes
abbrev pub OpensQuoted : ℕ → List ℕ → Type 0
OpensQuoted q bytes = (begins q bytes ≡ true) × IsOpen q (drop 1 bytes)

-- `x` or `X` and a quote, and none that closes
abbrev pub OpensBlob : List ℕ → Type 0
OpensBlob bytes =
    ((begins 120 bytes || begins 88 bytes) ≡ true) × (begins 39 (drop 1 bytes) ≡ true)
    × IsOpen 39 (drop 2 bytes)

-- `[`, and no front of the bytes that `]` closes
abbrev pub OpensBracket : List ℕ → Type 0
OpensBracket bytes =
    (begins 91 bytes ≡ true)
    × ((m : ℕ) → m ≤ length bytes → bracketed (take m bytes) ≡ false)

-- a text, a blob or a quoted name that isn't closed, to the end of the text
abbrev pub IsUnclosed : List ℕ → ℕ → Type 0
IsUnclosed bytes n =
    (n ≡ length bytes)
    × (OpensQuoted 39 bytes ⊎ (OpensBlob bytes ⊎ (OpensQuoted 34 bytes ⊎ (OpensQuoted 96 bytes
    ⊎ OpensBracket bytes))))

-- a blob whose inside is closed but isn't pairs of hexadecimal digits, all of it
abbrev pub IsUnpairedBlob : List ℕ → ℕ → Type 0
IsUnpairedBlob = IsBlobOf false

-- a number directly before bytes that a word may go on with, the number and all of them
abbrev pub IsJoinedNumber : List ℕ → ℕ → Type 0
IsJoinedNumber bytes n =
    (m : ℕ) × ((k : ℕ) × ((n ≡ m + k) × IsLongest number bytes m
    × IsLongest word_bytes (drop m bytes) k))

-- `?` with digits whose number isn't one of a parameter, all of it
abbrev pub IsWrongParameter : List ℕ → ℕ → Type 0
IsWrongParameter = IsNumbered false
