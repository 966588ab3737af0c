-- One piece at most is of the first rule that fits.
use Rattle.std.proofs.Common.{◌≡◌, ℕ, Option, inl, inr, List, [], ◌∷◌, ap, sym, ◌∙◌}
use Rattle.sql_tokens.specs.PieceType.{Piece}
use Rattle.sql_tokens.specs.declared.token.TokenKind.{TokenKind}
use Rattle.token_laws.specs.Rules.{Rule}
use Rattle.token_laws.specs.Table.{IsFirst}
use Rattle.token_laws.proofs.OneLength.{one_length}

abbrev piece_of : Option TokenKind → ℕ → Piece
piece_of k n = record { kind = k; len = n }

same_piece : (p q : Piece) → p.kind ≡ q.kind → p.len ≡ q.len → p ≡ q
same_piece p q e f = ap (λ k. piece_of k p.len) e ∙ ap (λ n. piece_of q.kind n) f

pub one_piece :
    (rules : List Rule) (bytes : List ℕ) (p q : Piece)
    → IsFirst rules bytes p
    → IsFirst rules bytes q
    → p ≡ q
one_piece [] bytes p q h g = same_piece p q (h.0 ∙ sym (g.0)) (h.1 ∙ sym (g.1))
one_piece (r ∷ rules) bytes p q (inl h) (inl g) =
    same_piece p q (h.0 ∙ sym (g.0)) (one_length r bytes p.len q.len h.1 g.1)
one_piece (r ∷ rules) bytes p q (inl h) (inr g) = absurd (g.0 p.len h.1)
one_piece (r ∷ rules) bytes p q (inr h) (inl g) = absurd (h.0 q.len g.1)
one_piece (r ∷ rules) bytes p q (inr h) (inr g) = one_piece rules bytes p q h.1 g.1
