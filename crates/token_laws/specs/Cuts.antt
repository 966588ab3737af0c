-- A text cut into pieces by the table of tokens.
use Rattle.std.specs.Prelude.{ℕ, ◌≡◌, ◌+◌, ◌<◌, ◌≤◌, List, [], ◌∷◌, ◌++◌, length, drop}
use Rattle.sql_tokens.specs.Tokens.{tokens_of_piece}
use Rattle.sql_tokens.specs.PieceType.{Piece}
use Rattle.sql_tokens.specs.declared.token.Token.{Token}
use Rattle.token_laws.specs.Table.{table, IsFirst}

-- Pieces that lie one behind the other and hold each byte once, none of them empty, and each of the
-- first rule of the table that fits where it stands.
abbrev pub IsCut : List ℕ → List Piece → Type 0
IsCut bytes [] = bytes ≡ []
IsCut bytes (p ∷ ps) =
    (0 < p.len) × (p.len ≤ length bytes) × IsFirst table bytes p × IsCut (drop p.len bytes) ps

-- the pieces that are tokens, where the first begins at this place
abbrev pub tokens_among : ℕ → List Piece → List Token
tokens_among place [] = []
tokens_among place (p ∷ ps) = tokens_of_piece p place ++ tokens_among (place + p.len) ps
