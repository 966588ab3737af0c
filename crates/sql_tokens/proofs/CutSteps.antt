-- One step of the cut.
use Rattle.std.proofs.Common.{◌≡◌, ℕ, zero, suc, ◌+◌, ◌-◌, ◌<◌, ◌≤◌, List, [], ◌∷◌, ◌++◌, length}
use Rattle.std.proofs.Common.{drop, refl, ap, sym, subst, ◌∙◌, arith, add-zero, append_assoc}
use Rattle.std.proofs.Common.{length-drop, drop-drop, append-nil, drop_of_length-le}
use Rattle.sql_tokens.specs.Pieces.{piece_at}
use Rattle.sql_tokens.specs.Tokens.{tokens_from, tokens_of_piece, tokens_of}
use Rattle.sql_tokens.specs.declared.pieces.Piece.{Piece}
use Rattle.sql_tokens.specs.declared.token.Token.{Token}

-- inside a piece nothing is tokens_of_piece up to its end
passed : (k p : ℕ) (bs : List ℕ) → tokens_from k p bs ≡ tokens_from 0 (p + k) (drop k bs)
unfolding tokens_from
passed zero p bs = rw add-zero refl
passed (suc k) p [] = refl
passed (suc k) p (b ∷ bs) = let e : p + 1 + k ≡ p + suc k = omega arith in
    passed k (p + 1) bs ∙ ap (λ q. tokens_from 0 q (drop k bs)) e

after_first : (n p : ℕ) (b : ℕ) (bs : List ℕ) → 0 < n
    → tokens_from (n - 1) (p + 1) bs ≡ tokens_from 0 (p + n) (drop n (b ∷ bs))
after_first zero p b bs h = absurd (omega arith)
after_first (suc k) p b bs h = let e : p + 1 + k ≡ p + suc k = omega arith in
    let d : suc k - 1 ≡ k = omega arith in
    ap (λ m. tokens_from m (p + 1) bs) d ∙ passed k (p + 1) bs
    ∙ ap (λ q. tokens_from 0 q (drop k bs)) e

-- the first piece is tokens_of_piece, and then what stands behind it
pub cut_step : (p : ℕ) (bs : List ℕ) → 0 < (piece_at bs).len → 0 < length bs
    → tokens_from 0 p bs
    ≡ tokens_of_piece (piece_at bs) p
    ++ tokens_from 0 (p + (piece_at bs).len) (drop ((piece_at bs).len) bs)
unfolding tokens_from
cut_step p [] h g = absurd (omega arith)
cut_step p (b ∷ bs) h g =
    ap (λ ts. tokens_of_piece (piece_at (b ∷ bs)) p ++ ts)
    (after_first ((piece_at (b ∷ bs)).len) p b bs h)

-- one turn of the loop
pub turn : (text : List ℕ) (ts us whole : List Token) (start : ℕ) (piece : Piece)
    → start < length text → piece ≡ piece_at (drop start text) → 0 < piece.len
    → us ≡ ts ++ tokens_of_piece piece start → ts ++ tokens_from 0 start (drop start text) ≡ whole
    → us ++ tokens_from 0 (start + piece.len) (drop (start + piece.len) text) ≡ whole
turn text ts us whole start piece lt is some new old =
    let there : 0 < length (drop start text) = omega (arith, length-drop start text) in
    let positive : 0 < (piece_at (drop start text)).len =
    subst (λ (q : Piece). 0 < q.len) is some in
    let step = cut_step start (drop start text) positive there in
    let stepped : tokens_from 0 start (drop start text)
    ≡ tokens_of_piece piece start
    ++ tokens_from 0 (start + piece.len) (drop piece.len (drop start text)) = rw is step in
    rw (new, append_assoc, ← drop-drop piece.len start text, ← stepped) old

pub ended : (text : List ℕ) (ts : List Token) (start : ℕ) → start ≤ length text
    → length text ≤ start → ts ++ tokens_from 0 start (drop start text) ≡ tokens_from 0 0 text
    → ts ≡ tokens_of text
unfolding tokens_from tokens_of
ended text ts start le ge e = sym (append-nil ts) ∙ rw (drop_of_length-le text ge) at e
