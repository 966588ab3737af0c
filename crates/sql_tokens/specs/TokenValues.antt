-- What the text of a token means.
use Rattle.std.specs.Prelude.{ℕ, ◌+◌, ◌-◌, ◌*◌, ◌==◌, ◌&&◌, nat_le, cond, Option, None, Some}
use Rattle.std.specs.Prelude.{List, [], ◌∷◌, length, take}
use Rattle.std.specs.Char.{is_ascii_digit}
use Rattle.sql_tokens.specs.Terminals.{text_of}
use Rattle.sql_tokens.specs.declared.token.Token.{Token}
use Rattle.sql_tokens.specs.declared.token.TokenKind.{TokenKind}
use Rattle.sql_tokens.specs.declared.token.TokenKind.TheVariants as kind

-- The bytes with each doubled quote made single. The second is for the place behind a quote.
abbrev mutual
  pub undoubled : ℕ → List ℕ → List ℕ
  undoubled q [] = []
  undoubled q (b ∷ bs) = b ∷ cond (b == q) (undoubled_behind q bs) (undoubled q bs)

  pub undoubled_behind : ℕ → List ℕ → List ℕ
  undoubled_behind q [] = []
  undoubled_behind q (b ∷ bs) = cond (b == q) (undoubled q bs) (b ∷ undoubled q bs)

-- all but the last
abbrev pub front : List ℕ → List ℕ
front bs = take (length bs - 1) bs

-- what stands between the quotes, or between brackets
unfoldable pub quoted_value : List ℕ → List ℕ
quoted_value [] = []
quoted_value (q ∷ bs) = cond (q == 91) (front bs) (undoubled q (front bs))

unfoldable pub hex_digit : ℕ → ℕ
hex_digit b =
    cond (is_ascii_digit b) (b - 48)
    (cond (nat_le 97 b && nat_le b 102) (b - 87)
    (cond (nat_le 65 b && nat_le b 70) (b - 55) 0))

-- The bytes that pairs of digits write. The second is for the place behind a first digit.
abbrev mutual
  pub hex_bytes : List ℕ → List ℕ
  hex_bytes [] = []
  hex_bytes (a ∷ bs) = hex_bytes_behind (hex_digit a) bs

  pub hex_bytes_behind : ℕ → List ℕ → List ℕ
  hex_bytes_behind high [] = []
  hex_bytes_behind high (b ∷ bs) = (16 * high + hex_digit b) ∷ hex_bytes bs

-- the bytes that are left to write, where a first digit may wait
abbrev pub hex_bytes_after : Option ℕ → List ℕ → List ℕ
hex_bytes_after None bs = hex_bytes bs
hex_bytes_after (Some high) bs = hex_bytes_behind high bs

-- the bytes that the digits between the quotes write
unfoldable pub blob_value : List ℕ → List ℕ
blob_value (x ∷ q ∷ bs) = hex_bytes (front bs)
blob_value _ = []

abbrev pub value_of_kind : TokenKind → List ℕ → List ℕ
value_of_kind kind.Quoted bytes = quoted_value bytes
value_of_kind kind.Text bytes = quoted_value bytes
value_of_kind kind.Blob bytes = blob_value bytes
value_of_kind kind.Word bytes = bytes
value_of_kind kind.Number bytes = bytes
value_of_kind kind.Parameter bytes = bytes
value_of_kind kind.Symbol bytes = bytes
value_of_kind kind.Bad bytes = bytes

-- what the text of a token means
unfoldable pub value_of : List ℕ → Token → List ℕ
value_of text token = value_of_kind token.kind (text_of text token)
