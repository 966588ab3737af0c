-- What stands at the front of a text: the first form that fits, with its longest run.
use Rattle.std.specs.Prelude.{ℕ, ◌+◌, ◌%◌, Bool, false, ◌==◌, ◌&&◌, ◌||◌, not, nat_lt, cond}
use Rattle.std.specs.Prelude.{Option, None, Some, List, [], ◌∷◌, length, take, drop}
use Rattle.std.specs.List.{prefix_len}
use Rattle.std.specs.Char.{is_ascii_digit, is_ascii_hexdigit}
use Rattle.sql_meaning.specs.Numbers.{digits_up_to}
use Rattle.sql_tokens.specs.Characters.{is_space_byte, is_word_start, is_word_byte}
use Rattle.sql_tokens.specs.Runs.{begins, inside_len, comment_len}
use Rattle.sql_tokens.specs.declared.pieces.Piece.{Piece}
use Rattle.sql_tokens.specs.declared.token.TokenKind.{TokenKind}
use Rattle.sql_tokens.specs.declared.token.TokenKind.TheVariants as kind

abbrev pub skipped : ℕ → Piece
skipped n = record { kind = None; len = n }

abbrev pub token : TokenKind → ℕ → Piece
token k n = record { kind = Some k; len = n }

-- the piece of a quoted form's length, or of one that nothing closes
abbrev pub piece_or : Option ℕ → (ℕ → Piece) → Piece → Piece
piece_or None f p = p
piece_or (Some n) f p = f n

-- a form between quotes, where the quote is doubled inside; a bad token where nothing closes it
unfoldable pub quoted_at : TokenKind → ℕ → List ℕ → Piece
quoted_at k q bs =
    piece_or (inside_len q (drop 1 bs)) (λ n. token k (n + 1)) (token kind.Bad (length bs))

-- `x` before such a form whose inside is an even number of hexadecimal digits, or a bad token
unfoldable pub blob_at : List ℕ → Piece
blob_at bs =
    let digits = prefix_len is_ascii_hexdigit (drop 2 bs) in
    piece_or (inside_len 39 (drop 2 bs))
    (λ n. token (cond (digits % 2 == 0 && n == digits + 1) kind.Blob kind.Bad) (n + 2))
    (token kind.Bad (length bs))

-- `[` up to the next `]`, or a bad token to the end
unfoldable pub bracket_at : List ℕ → Piece
bracket_at bs =
    let n = prefix_len (λ b. not (b == 93)) bs in
    cond (nat_lt n (length bs)) (token kind.Quoted (n + 1)) (token kind.Bad (length bs))

-- digits with a point and digits; 0 where there is no digit
unfoldable pub parts_len : List ℕ → ℕ
parts_len bs =
    let whole = prefix_len is_ascii_digit bs in
    let behind = drop whole bs in
    cond (begins 46 behind)
    (let part = prefix_len is_ascii_digit (drop 1 behind) in
    cond (whole == 0 && part == 0) 0 (whole + (1 + part)))
    whole

-- `e`, a sign or none, and digits; 0 where they are not all there
unfoldable pub exponent_len : List ℕ → ℕ
exponent_len [] = 0
exponent_len (b ∷ bs) =
    cond (b == 101 || b == 69)
    (let sign : ℕ = cond (begins 43 bs || begins 45 bs) 1 0 in
    let digits = prefix_len is_ascii_digit (drop sign bs) in
    cond (digits == 0) 0 (1 + (sign + digits)))
    0

-- `0x` and hexadecimal digits; 0 where they are not there
unfoldable pub hex_len : List ℕ → ℕ
hex_len (a ∷ b ∷ bs) =
    cond (a == 48 && (b == 120 || b == 88))
    (let digits = prefix_len is_ascii_hexdigit bs in cond (digits == 0) 0 (2 + digits))
    0
hex_len _ = 0

unfoldable pub decimal_len : List ℕ → ℕ
decimal_len bs =
    let parts = parts_len bs in cond (parts == 0) 0 (parts + exponent_len (drop parts bs))

-- the longest of a number's forms; 0 where none fits
unfoldable pub number_len : List ℕ → ℕ
number_len bs = let hex = hex_len bs in cond (hex == 0) (decimal_len bs) hex

-- a number, or a bad token where a byte of a word follows
unfoldable pub number_at : ℕ → List ℕ → Piece
number_at n bs =
    let more = prefix_len is_word_byte (drop n bs) in
    token (cond (more == 0) kind.Number kind.Bad) (n + more)

-- the greatest number of a parameter
abbrev pub most_parameters : ℕ
most_parameters = 32766

-- digits write a parameter's number, which is 1 to the greatest
abbrev pub is_parameter_number : Option ℕ → Bool
is_parameter_number None = false
is_parameter_number (Some n) = nat_lt 0 n

-- `?` alone or with a number, or a bad token
unfoldable pub numbered_parameter_at : List ℕ → Piece
numbered_parameter_at bs =
    let digits = prefix_len is_ascii_digit (drop 1 bs) in
    let number = digits_up_to most_parameters (take digits (drop 1 bs)) in
    token (cond (digits == 0 || is_parameter_number number) kind.Parameter kind.Bad) (1 + digits)

-- `:`, `@` or `$` with a name, or a bad token
unfoldable pub named_parameter_at : List ℕ → Piece
named_parameter_at bs =
    let more = prefix_len is_word_byte (drop 1 bs) in
    token (cond (more == 0) kind.Bad kind.Parameter) (1 + more)

-- the longest symbol; 0 where none begins
unfoldable pub symbol_len : List ℕ → ℕ
symbol_len [] = 0
symbol_len (b ∷ bs) =
    cond (b == 45) (cond (begins 62 bs) (cond (begins 62 (drop 1 bs)) 3 2) 1)
    (cond (b == 61) (cond (begins 61 bs) 2 1)
    (cond (b == 60) (cond (begins 61 bs || begins 62 bs || begins 60 bs) 2 1)
    (cond (b == 62) (cond (begins 61 bs || begins 62 bs) 2 1)
    (cond (b == 33) (cond (begins 61 bs) 2 0)
    (cond (b == 124) (cond (begins 124 bs) 2 1)
    (cond (b == 40 || b == 41 || b == 44 || b == 59 || b == 46 || b == 43 || b == 42 || b == 47
    || b == 37 || b == 38 || b == 126) 1 0))))))

unfoldable pub symbol_at : List ℕ → Piece
symbol_at bs = let n = symbol_len bs in cond (n == 0) (token kind.Bad 1) (token kind.Symbol n)

-- what is no word, and neither quoted nor skipped
unfoldable pub other_at : List ℕ → Piece
other_at bs =
    let number = number_len bs in
    cond (number == 0)
    (cond (begins 63 bs) (numbered_parameter_at bs)
    (cond (begins 58 bs || begins 64 bs || begins 36 bs) (named_parameter_at bs)
    (symbol_at bs)))
    (number_at number bs)

-- the piece of a byte and what stands behind it
unfoldable pub piece_from : ℕ → List ℕ → List ℕ → Piece
piece_from b bs all =
    cond (is_space_byte b) (skipped (1 + prefix_len is_space_byte bs))
    (cond (b == 45 && begins 45 bs)
    (skipped (2 + prefix_len (λ c. not (c == 10)) (drop 1 bs)))
    (cond (b == 47 && begins 42 bs) (skipped (2 + comment_len (drop 1 bs)))
    (cond (b == 39) (quoted_at kind.Text 39 all)
    (cond ((b == 120 || b == 88) && begins 39 bs) (blob_at all)
    (cond (b == 34 || b == 96) (quoted_at kind.Quoted b all)
    (cond (b == 91) (bracket_at all)
    (cond (is_word_start b) (token kind.Word (1 + prefix_len is_word_byte bs))
    (other_at all))))))))

unfoldable pub piece_at : List ℕ → Piece
piece_at [] = token kind.Bad 1
piece_at (b ∷ bs) = piece_from b bs (b ∷ bs)
