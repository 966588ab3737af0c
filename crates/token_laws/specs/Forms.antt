-- The forms of the tokens.
use Rattle.std.specs.Prelude.{ℕ, Bool, true, false, not, ◌==◌, ◌&&◌, ◌||◌, cond, List, [], ◌∷◌, ◌≡◌}
use Rattle.std.specs.Prelude.{◌+◌, ◌++◌, length}
use Rattle.std.specs.Prelude.{map, codes}
use Rattle.std.specs.Char.{is_ascii_digit, is_ascii_hexdigit}
use Rattle.sql_tokens.specs.Characters.{is_space_byte, is_word_start, is_word_byte}
use Rattle.sql_tokens.specs.Runs.{begins}
use Rattle.token_laws.specs.Form.{Form, nothing, byte_then, run_then, some_then, either, maybe}

abbrev pub is : ℕ → ℕ → Bool
is a b = b == a

abbrev pub spaces : Form
spaces = some_then is_space_byte nothing

abbrev pub line_comment : Form
line_comment = byte_then (is 45) (byte_then (is 45) (run_then (λ c. not (c == 10)) nothing))

abbrev pub word : Form
word = byte_then is_word_start (run_then is_word_byte nothing)

-- bytes that a word may go on with
abbrev pub word_bytes : Form
word_bytes = some_then is_word_byte nothing

-- pairs of hexadecimal digits
abbrev pub pairs : Form
pairs [] = true
pairs (a ∷ []) = false
pairs (a ∷ b ∷ bs) = is_ascii_hexdigit a && is_ascii_hexdigit b && pairs bs

-- bytes with each quote doubled, and then the quote
abbrev mutual
  pub inside : ℕ → List ℕ → Bool
  inside q [] = false
  inside q (b ∷ bs) = cond (b == q) (behind_quote q bs) (inside q bs)

  pub behind_quote : ℕ → List ℕ → Bool
  behind_quote q [] = true
  behind_quote q (b ∷ bs) = b == q && inside q bs

abbrev pub quoted : ℕ → Form
quoted q = byte_then (is q) (inside q)

abbrev pub bracketed : Form
bracketed = byte_then (is 91) (run_then (λ c. not (c == 93)) (byte_then (is 93) nothing))

abbrev pub digits : Form
digits = some_then is_ascii_digit nothing

abbrev pub exponent : Form
exponent = byte_then (λ b. b == 101 || b == 69)
    (either digits (byte_then (λ b. b == 43 || b == 45) digits))

-- digits, digits with a point, or a point and digits, each with an exponent or without; or
-- hexadecimal
abbrev pub decimal : Form
decimal =
    either (some_then is_ascii_digit (either (maybe exponent)
    (byte_then (is 46) (run_then is_ascii_digit (maybe exponent)))))
    (byte_then (is 46) (some_then is_ascii_digit (maybe exponent)))

abbrev pub hexadecimal : Form
hexadecimal = byte_then (is 48) (byte_then (λ b. b == 120 || b == 88)
    (some_then is_ascii_hexdigit nothing))

abbrev pub number : Form
number = either hexadecimal decimal

-- `?` and digits or none
abbrev pub numbered_parameter : Form
numbered_parameter = byte_then (is 63) (run_then is_ascii_digit nothing)

-- `:`, `@` or `$` and bytes that a word may go on with
abbrev pub named_parameter : Form
named_parameter = byte_then (λ b. b == 58 || b == 64 || b == 36) (some_then is_word_byte nothing)

-- these bytes and no others
abbrev pub exactly : List ℕ → Form
exactly [] = nothing
exactly (c ∷ cs) = byte_then (is c) (exactly cs)

-- one of these
abbrev pub one_of : List (List ℕ) → Form
one_of [] bs = false
one_of (word ∷ words) bs = exactly word bs || one_of words bs

abbrev pub symbols : List (List ℕ)
symbols = map codes (
    "(" ∷ ")" ∷ "," ∷ ";" ∷ "." ∷ "+" ∷ "-" ∷ "*" ∷ "/" ∷ "%"
    ∷ "=" ∷ "==" ∷ "<>" ∷ "!=" ∷ "<" ∷ "<=" ∷ ">" ∷ ">="
    ∷ "||" ∷ "|" ∷ "&" ∷ "<<" ∷ ">>" ∷ "~" ∷ "->" ∷ "->>" ∷ [])

abbrev pub symbol : Form
symbol = one_of symbols

-- each quote doubled
abbrev pub doubled : ℕ → List ℕ → List ℕ
doubled q [] = []
doubled q (b ∷ bs) = cond (b == q) (q ∷ q ∷ doubled q bs) (b ∷ doubled q bs)

-- the first n bytes are a value with each quote doubled, and then the quote that closes: no quote
-- follows it
pub record Closed (q : ℕ) (bs : List ℕ) (n : ℕ) : Type 0 where
  pub value : List ℕ
  pub rest : List ℕ
  pub made : bs ≡ doubled q value ++ (q ∷ rest)
  pub ends : begins q rest ≡ false
  pub len : n ≡ length (doubled q value) + 1
