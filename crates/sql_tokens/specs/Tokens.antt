-- The tokens of a text.
use Rattle.std.specs.Prelude.{ℕ, zero, suc, ◌+◌, ◌-◌, ◌<◌, ◌≤◌, Option, None, Some}
use Rattle.std.specs.Prelude.{List, [], ◌∷◌, ◌++◌}
use Rattle.sql_tokens.specs.Pieces.{piece_at}
use Rattle.sql_tokens.specs.declared.pieces.Piece.{Piece}
use Rattle.sql_tokens.specs.declared.token.Token.{Token}
use Rattle.sql_tokens.specs.declared.token.TokenKind.{TokenKind}

abbrev pub tokens_of_kind : Option TokenKind → ℕ → ℕ → List Token
tokens_of_kind None start end = []
tokens_of_kind (Some kind) start end = record { kind = kind; start = start; end = end } ∷ []

-- the token that a piece at this place is, if it is one
abbrev pub tokens_of_piece : Piece → ℕ → List Token
tokens_of_piece piece start = tokens_of_kind piece.kind start (start + piece.len)

-- The tokens of the bytes from this place on, of which the first `inside` bytes belong to a piece
-- before them.
unfoldable pub tokens_from : ℕ → ℕ → List ℕ → List Token
tokens_from inside place [] = []
tokens_from zero place (b ∷ bs) =
    let piece = piece_at (b ∷ bs) in
    tokens_of_piece piece place ++ tokens_from (piece.len - 1) (place + 1) bs
tokens_from (suc inside) place (b ∷ bs) = tokens_from inside (place + 1) bs

unfoldable pub tokens_of : List ℕ → List Token
tokens_of text = tokens_from 0 0 text

-- the token ends within so many bytes
abbrev pub IsWithin : ℕ → Token → Type 0
IsWithin n token = (token.start ≤ token.end) × (token.end ≤ n)

-- tokens that lie one behind the other from this place to that one, none of them empty
abbrev pub IsInOrder : ℕ → ℕ → List Token → Type 0
IsInOrder from end [] = from ≤ end
IsInOrder from end (t ∷ ts) = (from ≤ t.start) × (t.start < t.end) × IsInOrder t.end end ts
