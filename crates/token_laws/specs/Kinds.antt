-- What the tokens of each kind are, apart from how they are found.
use Rattle.std.specs.Prelude.{ℕ, ◌≡◌, ◌+◌, ◌<◌, ◌≤◌, ◌==◌, ◌&&◌, ◌||◌, ◌⊎◌, Bool, true, false}
use Rattle.std.specs.Prelude.{nat_lt, nat_le, List, [], ◌∷◌, length, take, drop}
use Rattle.sql_meaning.specs.Numbers.{digits_behind}
use Rattle.sql_tokens.specs.Characters.{is_word_byte}
use Rattle.sql_tokens.specs.Pieces.{most_parameters}
use Rattle.sql_tokens.specs.Runs.{begins}
use Rattle.token_laws.specs.Form.{Form}
use Rattle.token_laws.specs.Forms.{Closed, number, spaces, line_comment, bracketed, pairs}
use Rattle.token_laws.specs.Forms.{numbered_parameter, named_parameter, symbol}

-- The first n bytes have the form, and no longer front of the bytes has it.
abbrev pub IsLongest : Form → List ℕ → ℕ → Type 0
IsLongest form bytes n =
    (n ≤ length bytes) × (form (take n bytes) ≡ true)
    × ((m : ℕ) → n < m → m ≤ length bytes → form (take m bytes) ≡ false)

-- `*/` stands in the bytes
abbrev pub has_comment_end : List ℕ → Bool
has_comment_end [] = false
has_comment_end (b ∷ bs) = (b == 42 && begins 47 bs) || has_comment_end bs

-- the shortest front in which `*/` stands, or all bytes where it stands nowhere
abbrev pub IsCommentRest : List ℕ → ℕ → Type 0
IsCommentRest bytes n =
    (n ≤ length bytes) × ((m : ℕ) → m < n → has_comment_end (take m bytes) ≡ false)
    × (has_comment_end (take n bytes) ≡ true ⊎ n ≡ length bytes)

-- `/*` and what ends it
abbrev pub IsComment : List ℕ → ℕ → Type 0
IsComment bytes n =
    (begins 47 bytes ≡ true) × (begins 42 (drop 1 bytes) ≡ true)
    × ((m : ℕ) × ((n ≡ 2 + m) × IsCommentRest (drop 2 bytes) m))

-- spaces, or a comment of either form
abbrev pub IsSkipped : List ℕ → ℕ → Type 0
IsSkipped bytes n =
    IsLongest spaces bytes n ⊎ (IsLongest line_comment bytes n ⊎ IsComment bytes n)

-- a quote, bytes with each quote doubled, and the quote that closes
abbrev pub IsBetweenQuotes : ℕ → List ℕ → ℕ → Type 0
IsBetweenQuotes q bytes n =
    (begins q bytes ≡ true) × ((m : ℕ) × ((n ≡ m + 1) × Closed q (drop 1 bytes) m))

-- a byte that a word may go on with stands first
abbrev pub goes_on : List ℕ → Bool
goes_on [] = false
goes_on (b ∷ bs) = is_word_byte b

-- the longest of a number's forms, behind which no byte of a word stands
abbrev pub IsNumber : List ℕ → ℕ → Type 0
IsNumber bytes n = IsLongest number bytes n × (goes_on (drop n bytes) ≡ false)

-- between double quotes, backquotes or brackets
abbrev pub IsQuoted : List ℕ → ℕ → Type 0
IsQuoted bytes n =
    IsBetweenQuotes 34 bytes n ⊎ (IsBetweenQuotes 96 bytes n ⊎ IsLongest bracketed bytes n)

-- no digits, or digits that write a number from 1 to the greatest of a parameter
abbrev pub passes_as_number : List ℕ → Bool
passes_as_number [] = true
passes_as_number (d ∷ ds) =
    nat_lt 0 (digits_behind 0 (d ∷ ds)) && nat_le (digits_behind 0 (d ∷ ds)) most_parameters

-- `?` and all digits behind it, whose number passes or doesn't
abbrev pub IsNumbered : Bool → List ℕ → ℕ → Type 0
IsNumbered passes bytes n =
    IsLongest numbered_parameter bytes n × (passes_as_number (drop 1 (take n bytes)) ≡ passes)

abbrev pub IsParameter : List ℕ → ℕ → Type 0
IsParameter bytes n = IsNumbered true bytes n ⊎ IsLongest named_parameter bytes n

-- `x` or `X` directly before a text between quotes, whose inside is pairs of hexadecimal digits or
-- isn't
abbrev pub IsBlobOf : Bool → List ℕ → ℕ → Type 0
IsBlobOf paired bytes n =
    ((begins 120 bytes || begins 88 bytes) ≡ true) × (begins 39 (drop 1 bytes) ≡ true)
    × ((m : ℕ) × ((n ≡ m + 3) × Closed 39 (drop 2 bytes) (m + 1)
    × (pairs (take m (drop 2 bytes)) ≡ paired)))

abbrev pub IsBlob : List ℕ → ℕ → Type 0
IsBlob = IsBlobOf true

-- `--` or `/*` stands first
abbrev pub begins_comment : List ℕ → Bool
begins_comment bytes =
    (begins 45 bytes && begins 45 (drop 1 bytes)) || (begins 47 bytes && begins 42 (drop 1 bytes))

-- the longest of the symbols, where no comment begins
abbrev pub IsSymbol : List ℕ → ℕ → Type 0
IsSymbol bytes n = (begins_comment bytes ≡ false) × IsLongest symbol bytes n
