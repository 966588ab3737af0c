-- A text has one cut, and its tokens are those of the cut.
use Rattle.std.proofs.Common.{◌≡◌, ℕ, zero, suc, ◌+◌, ◌<◌, ◌≤◌, List, [], ◌∷◌, ◌++◌, length, drop}
use Rattle.std.proofs.Common.{refl, ap, sym, subst, ◌∙◌, arith, length-drop}
use Rattle.sql_tokens.proofs.CutSteps.{cut_step}
use Rattle.sql_tokens.specs.Pieces.{piece_at}
use Rattle.sql_tokens.specs.Tokens.{tokens_from, tokens_of, tokens_of_piece}
use Rattle.sql_tokens.specs.PieceType.{Piece}
use Rattle.token_laws.specs.Cuts.{IsCut, tokens_among}
use Rattle.token_laws.specs.Table.{table, IsFirst}
use Rattle.token_laws.proofs.FirstRules.{piece_first}
use Rattle.token_laws.proofs.Lengths.{piece_lies}
use Rattle.token_laws.proofs.OnePiece.{one_piece}

-- a piece of a cut is what stands at the front
piece_of_cut :
    (bytes : List ℕ) (p : Piece)
    → 0 < p.len
    → p.len ≤ length bytes
    → IsFirst table bytes p
    → p ≡ piece_at bytes
piece_of_cut [] p some le h = absurd (omega (arith, some, le))
piece_of_cut (b ∷ bs) p some le h =
    one_piece table (b ∷ bs) p (piece_at (b ∷ bs)) h (piece_first b bs)

tokens_from-cut :
    (place : ℕ) (bytes : List ℕ) (ps : List Piece)
    → IsCut bytes ps
    → tokens_from 0 place bytes ≡ tokens_among place ps
unfolding tokens_from
tokens_from-cut place bytes [] h = rw h refl
tokens_from-cut place bytes (p ∷ ps) h =
    let is : p ≡ piece_at bytes = piece_of_cut bytes p h.0 h.1 h.2 in
    let some : 0 < (piece_at bytes).len = subst (λ (q : Piece). 0 < q.len) is h.0 in
    let there : 0 < length bytes = let a = h.0 in let b = h.1 in omega (arith, a, b) in
    let step = cut_step place bytes some there in
    let stepped :
    tokens_from 0 place bytes
    ≡ tokens_of_piece p place ++ tokens_from 0 (place + p.len) (drop p.len bytes) =
    rw is step in
    stepped
    ∙ ap (λ ts. tokens_of_piece p place ++ ts)
    (tokens_from-cut (place + p.len) (drop p.len bytes) ps h.3)

pub tokens_of-cut :
    (text : List ℕ) (ps : List Piece) → IsCut text ps → tokens_of text ≡ tokens_among 0 ps
unfolding tokens_of
tokens_of-cut text ps h = tokens_from-cut 0 text ps h

empty_is_short : (bytes : List ℕ) (n : ℕ) → bytes ≡ [] → 0 < n → n ≤ length bytes → ⊥
empty_is_short bytes n e lt le = let none = ap length e in omega (arith, none, lt, le)

pub one_cut :
    (bytes : List ℕ) (ps qs : List Piece) → IsCut bytes ps → IsCut bytes qs → ps ≡ qs
one_cut bytes [] [] h g = refl
one_cut bytes [] (q ∷ qs) h g = absurd (empty_is_short bytes q.len h g.0 g.1)
one_cut bytes (p ∷ ps) [] h g = absurd (empty_is_short bytes p.len g h.0 h.1)
one_cut bytes (p ∷ ps) (q ∷ qs) h g =
    let same : p ≡ q = one_piece table bytes p q h.2 g.2 in
    let rest : IsCut (drop p.len bytes) qs =
    subst (λ (r : Piece). IsCut (drop r.len bytes) qs) (sym same) g.3 in
    ap (λ r. r ∷ ps) same ∙ ap (λ rs. q ∷ rs) (one_cut (drop p.len bytes) ps qs h.3 rest)

cut_within : (n : ℕ) (bytes : List ℕ) → length bytes ≤ n → (ps : List Piece) × IsCut bytes ps
cut_within n [] h = ([], refl)
cut_within zero (b ∷ bs) h = absurd (omega (arith, h))
cut_within (suc n) (b ∷ bs) h =
    let p : Piece = piece_at (b ∷ bs) in
    let lies = piece_lies b bs in
    let some : 0 < (piece_at (b ∷ bs)).len = lies.0 in
    let shorter : length (drop (piece_at (b ∷ bs)).len (b ∷ bs)) ≤ n =
    omega (arith, length-drop (piece_at (b ∷ bs)).len (b ∷ bs), some, h) in
    let rest = cut_within n (drop (piece_at (b ∷ bs)).len (b ∷ bs)) shorter in
    (piece_at (b ∷ bs) ∷ rest.0, (lies.0, lies.1, piece_first b bs, rest.1))

pub cut_exists : (text : List ℕ) → (ps : List Piece) × IsCut text ps
cut_exists text = let le : length text ≤ length text = omega arith in
    cut_within (length text) text le
