-- Tokens stay in order where one is added behind them.
use Rattle.std.proofs.Common.{◌≡◌, ℕ, ◌+◌, ◌<◌, ◌≤◌, Option, None, Some, List, [], ◌∷◌, ◌++◌}
use Rattle.std.proofs.Common.{sym, subst, append-nil, arith}
use Rattle.sql_tokens.specs.Tokens.{IsInOrder, tokens_of_kind, tokens_of_piece}
use Rattle.sql_tokens.specs.declared.pieces.Piece.{Piece}
use Rattle.sql_tokens.specs.declared.token.TokenKind.{TokenKind}
use Rattle.sql_tokens.specs.declared.token.Token.{Token}

pub in_order-more :
    (from middle end : ℕ) (ts : List Token)
    → IsInOrder from middle ts
    → middle ≤ end
    → IsInOrder from end ts
in_order-more from middle end [] h le = omega arith
in_order-more from middle end (t ∷ ts) h le =
    (h.0, h.1, in_order-more t.end middle end ts h.2 le)

pub in_order-push :
    (from middle : ℕ) (ts : List Token) (t : Token)
    → IsInOrder from middle ts
    → middle ≤ t.start
    → t.start < t.end
    → IsInOrder from t.end (ts ++ t ∷ [])
in_order-push from middle [] t h le lt = (omega arith, lt, omega arith)
in_order-push from middle (u ∷ us) t h le lt =
    (h.0, h.1, in_order-push u.end middle us t h.2 le lt)

-- and where a piece that isn't empty is added
pub in_order-piece :
    (start : ℕ) (piece : Piece) (ts more : List Token)
    → more ≡ ts ++ tokens_of_piece piece start
    → 0 < piece.len
    → IsInOrder 0 start ts
    → IsInOrder 0 (start + piece.len) more
in_order-piece start piece ts more is some h =
    subst (IsInOrder 0 (start + piece.len)) (sym is) (kinded piece.kind)
  where
    kinded :
        (kind : Option TokenKind)
        → IsInOrder 0 (start + piece.len)
        (ts ++ tokens_of_kind kind start (start + piece.len))
    kinded None = rw append-nil (in_order-more 0 start (start + piece.len) ts h (omega arith))
    kinded (Some kind) =
        in_order-push 0 start ts (record { kind = kind; start = start; end = start + piece.len })
        h (omega arith) (omega arith)
