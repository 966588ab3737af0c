-- The values of tokens are bytes where the text is.
use Rattle.std.proofs.Common.{ℕ, zero, suc, ◌-◌, ◌<◌, ◌==◌, ◌&&◌, nat_le, List, [], ◌∷◌, length}
use Rattle.std.proofs.Common.{take, drop, arith}
use Rattle.sql_meaning.specs.Values.{IsBytes}
use Rattle.sql_tokens.specs.Terminals.{text_of}
use Rattle.sql_tokens.specs.TokenValues.{undoubled, undoubled_behind, front, quoted_value}
use Rattle.sql_tokens.specs.TokenValues.{hex_digit, hex_bytes, hex_bytes_behind, blob_value}
use Rattle.sql_tokens.specs.TokenValues.{value_of_kind, value_of}
use Rattle.sql_tokens.specs.declared.token.Token.{Token}
use Rattle.sql_tokens.specs.declared.token.TokenKind.{TokenKind}
use Rattle.sql_tokens.specs.declared.token.TokenKind.TheVariants as kind
use Rattle.schema_read.proofs.Cases.{chosen}

all_take : (n : ℕ) (bs : List ℕ) → IsBytes bs → IsBytes (take n bs)
all_take zero bs h = tt
all_take (suc n) [] h = tt
all_take (suc n) (b ∷ bs) h = (h.0, all_take n bs h.1)

all_drop : (n : ℕ) (bs : List ℕ) → IsBytes bs → IsBytes (drop n bs)
all_drop zero bs h = h
all_drop (suc n) [] h = tt
all_drop (suc n) (b ∷ bs) h = all_drop n bs h.1

pub text_bytes : (text : List ℕ) (token : Token) → IsBytes text → IsBytes (text_of text token)
unfolding text_of
text_bytes text token h =
    chosen IsBytes (nat_le token.start token.end && nat_le token.end (length text)) _ []
    (all_take (token.end - token.start) (drop token.start text) (all_drop token.start text h)) tt

mutual
  undoubled_bytes : (q : ℕ) (bs : List ℕ) → IsBytes bs → IsBytes (undoubled q bs)
  undoubled_bytes q [] h = tt
  undoubled_bytes q (b ∷ bs) h =
      (h.0, chosen IsBytes (b == q) _ _ (behind_bytes q bs h.1) (undoubled_bytes q bs h.1))

  behind_bytes : (q : ℕ) (bs : List ℕ) → IsBytes bs → IsBytes (undoubled_behind q bs)
  behind_bytes q [] h = tt
  behind_bytes q (b ∷ bs) h =
      chosen IsBytes (b == q) _ _ (undoubled_bytes q bs h.1) (h.0, undoubled_bytes q bs h.1)

front_bytes : (bs : List ℕ) → IsBytes bs → IsBytes (front bs)
front_bytes bs h = all_take (length bs - 1) bs h

quoted_bytes : (bs : List ℕ) → IsBytes bs → IsBytes (quoted_value bs)
unfolding quoted_value
quoted_bytes [] h = tt
quoted_bytes (q ∷ bs) h =
    chosen IsBytes (q == 91) _ _ (front_bytes bs h.1)
    (undoubled_bytes q (front bs) (front_bytes bs h.1))

small_digit : (b : ℕ) → hex_digit b < 16
unfolding hex_digit
small_digit b = grind arith

mutual
  hex_are_bytes : (bs : List ℕ) → IsBytes (hex_bytes bs)
  hex_are_bytes [] = tt
  hex_are_bytes (b ∷ bs) = hex_behind_bytes (hex_digit b) bs (small_digit b)

  hex_behind_bytes : (high : ℕ) (bs : List ℕ) → high < 16 → IsBytes (hex_bytes_behind high bs)
  hex_behind_bytes high [] h = tt
  hex_behind_bytes high (b ∷ bs) h = let low = small_digit b in
      (omega (arith, h, low), hex_are_bytes bs)

blob_bytes : (bs : List ℕ) → IsBytes (blob_value bs)
unfolding blob_value
blob_bytes [] = tt
blob_bytes (x ∷ []) = tt
blob_bytes (x ∷ q ∷ bs) = hex_are_bytes (front bs)

kind_bytes : (k : TokenKind) (bs : List ℕ) → IsBytes bs → IsBytes (value_of_kind k bs)
kind_bytes kind.Quoted bs h = quoted_bytes bs h
kind_bytes kind.Text bs h = quoted_bytes bs h
kind_bytes kind.Blob bs h = blob_bytes bs
kind_bytes kind.Word bs h = h
kind_bytes kind.Number bs h = h
kind_bytes kind.Parameter bs h = h
kind_bytes kind.Symbol bs h = h
kind_bytes kind.Bad bs h = h

pub value_bytes : (text : List ℕ) (token : Token) → IsBytes text → IsBytes (value_of text token)
unfolding value_of
value_bytes text token h = kind_bytes token.kind (text_of text token) (text_bytes text token h)
