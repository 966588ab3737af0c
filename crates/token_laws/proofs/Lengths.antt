-- Each piece has a byte, and lies within the bytes.
use Rattle.std.proofs.Common.{◌≡◌, ℕ, zero, suc, ◌+◌, ◌<◌, ◌≤◌, ◌==◌, ◌&&◌, ◌||◌, cond, not}
use Rattle.std.proofs.Common.{Bool, true, false, Option, None, Some, List, [], ◌∷◌, length, drop}
use Rattle.std.proofs.Common.{refl, ap, ◌∙◌, arith, length-drop, length-append}
use Rattle.std.specs.Prelude.{nat_lt}
use Rattle.std.specs.List.{prefix_len}
use Rattle.std.specs.Char.{is_ascii_digit}
use Rattle.std.proofs.lemmas.List.Sums.{prefix_len-le-length}
use Rattle.sql_tokens.specs.Characters.{is_space_byte, is_word_start, is_word_byte}
use Rattle.sql_tokens.specs.Runs.{begins, inside_len, comment_len, behind_star_len}
use Rattle.sql_tokens.specs.Pieces.{skipped, token, piece_or, quoted_at, blob_at, bracket_at}
use Rattle.sql_tokens.specs.Pieces.{number_len, number_at, numbered_parameter_at}
use Rattle.sql_tokens.specs.Pieces.{named_parameter_at, symbol_len, symbol_at, other_at}
use Rattle.sql_tokens.specs.Pieces.{piece_from, piece_at}
use Rattle.sql_tokens.specs.PieceType.{Piece}
use Rattle.sql_tokens.specs.declared.token.TokenKind.{TokenKind}
use Rattle.sql_tokens.specs.declared.token.TokenKind.TheVariants as kind
use Rattle.token_laws.specs.Forms.{number, doubled}
use Rattle.token_laws.proofs.Booleans.{right_of}
use Rattle.token_laws.proofs.Longest.{longest_within}
use Rattle.token_laws.proofs.Runs.{some_len}
use Rattle.token_laws.proofs.Numbers.{number_is}
use Rattle.token_laws.proofs.Quotes.{found}

abbrev Lies : ℕ → Piece → Type 0
Lies n p = (0 < p.len) × (p.len ≤ n)

-- one of two pieces
chosen : (n : ℕ) (v : Bool) (p q : Piece) → (v ≡ true → Lies n p) → Lies n q → Lies n (cond v p q)
chosen n true p q h g = h refl
chosen n false p q h g = g

-- one of two lengths
shorter : (n : ℕ) (v : Bool) (k m : ℕ) → k ≤ n → m ≤ n → cond v k m ≤ n
shorter n true k m h g = h
shorter n false k m h g = g

not_empty : (b : ℕ) (bs : List ℕ) → begins b bs ≡ true → 1 ≤ length bs
not_empty b [] h = absurd (cc)
not_empty b (c ∷ cs) h = omega arith

-- up to a quote that closes
inside_within :
    (q : ℕ) (bs : List ℕ) (n : ℕ) → inside_len q bs ≡ Some n → (0 < n) × (n ≤ length bs)
inside_within q bs n h = let c = found q bs n h in let l = c.len in let m = ap length c.made in
    (omega (arith, l), omega (arith, l, m, length-append (doubled q c.value) (q ∷ c.rest)))

or_bad :
    (n : ℕ) (x : Option ℕ) (f : ℕ → Piece)
    → ((m : ℕ) → x ≡ Some m → Lies n (f m))
    → 0 < n
    → Lies n (piece_or x f (token kind.Bad n))
or_bad n None f h some = (some, omega arith)
or_bad n (Some m) f h some = h m refl

pub comment_within : (bs : List ℕ) → (comment_len bs ≤ length bs) × (behind_star_len bs ≤ length bs)
comment_within [] = (omega arith, omega arith)
comment_within (b ∷ bs) =
    let rest = comment_within bs in
    let one = shorter (length bs) (b == 42) (behind_star_len bs) (comment_len bs) rest.1 rest.0 in
    let none : 0 ≤ length bs = omega arith in
    let two =
    shorter (length bs) (b == 47) 0 (cond (b == 42) (behind_star_len bs) (comment_len bs)) none
    one in
    (omega (arith, one), omega (arith, two))

number_within_at : (n m : ℕ) → ((k : ℕ) → some_len n ≡ Some k → k ≤ m) → n ≤ m
number_within_at zero m h = omega arith
number_within_at (suc n) m h = h (suc n) refl

number_within : (bs : List ℕ) → number_len bs ≤ length bs
number_within bs =
    number_within_at (number_len bs) (length bs)
    (λ k e. longest_within number bs k (number_is bs ∙ e))

pub not_zero_is_positive : (n : ℕ) → (n == 0) ≡ false → 0 < n
not_zero_is_positive zero h = absurd (cc)
not_zero_is_positive (suc n) h = omega arith

quoted_lies :
    (k : TokenKind) (q b : ℕ) (bs : List ℕ) → Lies (suc (length bs)) (quoted_at k q (b ∷ bs))
unfolding quoted_at
quoted_lies k q b bs =
    or_bad (suc (length bs)) (inside_len q bs) (λ n. token k (n + 1))
    (λ m e. let w = (inside_within q bs m e).1 in (omega arith, omega (arith, w))) (omega arith)

blob_lies :
    (b c : ℕ) (bs : List ℕ) → Lies (suc (suc (length bs))) (blob_at (b ∷ c ∷ bs))
unfolding blob_at
blob_lies b c bs =
    or_bad (suc (suc (length bs))) (inside_len 39 bs) _
    (λ m e. let w = (inside_within 39 bs m e).1 in (omega arith, omega (arith, w))) (omega arith)

bracket_lies : (b : ℕ) (bs : List ℕ) → Lies (suc (length bs)) (bracket_at (b ∷ bs))
unfolding bracket_at
bracket_lies b bs = at (prefix_len (λ c. not (c == 93)) (b ∷ bs)) _ refl
  where
    at :
        (n : ℕ) (v : Bool)
        → nat_lt n (suc (length bs)) ≡ v
        → Lies (suc (length bs))
        (cond v (token kind.Quoted (n + 1)) (token kind.Bad (suc (length bs))))
    at n true e = let lt : n < suc (length bs) = grind (arith, e) in
        (omega arith, omega (arith, lt))
    at n false e = (omega arith, omega arith)

number_lies :
    (n : ℕ) (bs : List ℕ) → 0 < n → n ≤ length bs → Lies (length bs) (number_at n bs)
unfolding number_at
number_lies n bs some le =
    let more = prefix_len-le-length is_word_byte (drop n bs) in
    (omega (arith, some), omega (arith, some, le, more, length-drop n bs))

numbered_lies : (b : ℕ) (bs : List ℕ) → Lies (suc (length bs)) (numbered_parameter_at (b ∷ bs))
unfolding numbered_parameter_at
numbered_lies b bs =
    let more = prefix_len-le-length is_ascii_digit bs in (omega arith, omega (arith, more))

named_lies : (b : ℕ) (bs : List ℕ) → Lies (suc (length bs)) (named_parameter_at (b ∷ bs))
unfolding named_parameter_at
named_lies b bs =
    let more = prefix_len-le-length is_word_byte bs in (omega arith, omega (arith, more))

-- a symbol of one byte may be longer where its next byte fits
two_within :
    (v : Bool) (k : ℕ) (bs : List ℕ)
    → (v ≡ true → 1 ≤ length bs)
    → k ≤ 1
    → cond v 2 k ≤ suc (length bs)
two_within true k bs h le = let some = h refl in omega (arith, some)
two_within false k bs h le = omega (arith, le)

begins_either :
    (b c : ℕ) (bs : List ℕ) → (begins b bs || begins c bs) ≡ true → 1 ≤ length bs
begins_either b c [] h = absurd (cc)
begins_either b c (d ∷ ds) h = omega arith

begins_one_of :
    (b c d : ℕ) (bs : List ℕ)
    → (begins b bs || begins c bs || begins d bs) ≡ true
    → 1 ≤ length bs
begins_one_of b c d [] h = absurd (cc)
begins_one_of b c d (e ∷ es) h = omega arith

arrow_within : (bs : List ℕ)
    → cond (begins 62 bs) (cond (begins 62 (drop 1 bs)) 3 2) 1 ≤ suc (length bs)
arrow_within [] = omega arith
arrow_within (b ∷ []) = shorter 2 (b == 62) 2 1 (omega arith) (omega arith)
arrow_within (b ∷ c ∷ bs) =
    shorter (suc (suc (suc (length bs)))) (b == 62) (cond (c == 62) 3 2) 1
    (shorter (suc (suc (suc (length bs)))) (c == 62) 3 2 (omega arith) (omega arith)) (omega arith)

symbol_within : (b : ℕ) (bs : List ℕ) → symbol_len (b ∷ bs) ≤ suc (length bs)
unfolding symbol_len
symbol_within b bs =
    let n : ℕ = suc (length bs) in
    let one : 1 ≤ suc (length bs) = omega arith in
    let none : 0 ≤ suc (length bs) = omega arith in
    shorter n (b == 45) _ _ (arrow_within bs)
    (shorter n (b == 61) _ _ (two_within (begins 61 bs) 1 bs (not_empty 61 bs) (omega arith))
    (shorter n (b == 60) _ _
    (two_within (begins 61 bs || begins 62 bs || begins 60 bs) 1 bs (begins_one_of 61 62 60 bs)
    (omega arith))
    (shorter n (b == 62) _ _
    (two_within (begins 61 bs || begins 62 bs) 1 bs (begins_either 61 62 bs) (omega arith))
    (shorter n (b == 33) _ _ (two_within (begins 61 bs) 0 bs (not_empty 61 bs) (omega arith))
    (shorter n (b == 124) _ _ (two_within (begins 124 bs) 1 bs (not_empty 124 bs) (omega arith))
    (shorter n _ 1 0 one none))))))

symbol_lies : (b : ℕ) (bs : List ℕ) → Lies (suc (length bs)) (symbol_at (b ∷ bs))
unfolding symbol_at
symbol_lies b bs = at (symbol_len (b ∷ bs)) _ refl (symbol_within b bs)
  where
    at :
        (n : ℕ) (v : Bool)
        → (n == 0) ≡ v
        → n ≤ suc (length bs)
        → Lies (suc (length bs)) (cond v (token kind.Bad 1) (token kind.Symbol n))
    at n true e le = (omega arith, omega arith)
    at n false e le = (not_zero_is_positive n e, le)

other_lies : (b : ℕ) (bs : List ℕ) → Lies (suc (length bs)) (other_at (b ∷ bs))
unfolding other_at
other_lies b bs = at (number_len (b ∷ bs)) _ refl (number_within (b ∷ bs))
  where
    n : ℕ
    n = suc (length bs)

    at :
        (k : ℕ) (v : Bool)
        → (k == 0) ≡ v
        → k ≤ suc (length bs)
        → Lies (suc (length bs))
        (cond v
        (cond (b == 63) (numbered_parameter_at (b ∷ bs))
        (cond (b == 58 || b == 64 || b == 36) (named_parameter_at (b ∷ bs)) (symbol_at (b ∷ bs))))
        (number_at k (b ∷ bs)))
    at k true e le =
        chosen n (b == 63) _ _ (λ t. numbered_lies b bs)
        (chosen n (b == 58 || b == 64 || b == 36) _ _ (λ t. named_lies b bs) (symbol_lies b bs))
    at k false e le = number_lies k (b ∷ bs) (not_zero_is_positive k e) le

run_lies :
    (t : ℕ → Bool) (bs : List ℕ) (kinds : Option TokenKind)
    → Lies (suc (length bs)) (record { kind = kinds; len = 1 + prefix_len t bs })
run_lies t bs kinds = let le = prefix_len-le-length t bs in (omega arith, omega (arith, le))

line_lies :
    (t : ℕ → Bool) (bs : List ℕ)
    → 1 ≤ length bs
    → Lies (suc (length bs)) (skipped (2 + prefix_len t (drop 1 bs)))
line_lies t bs h =
    let le = prefix_len-le-length t (drop 1 bs) in
    (omega arith, omega (arith, le, h, length-drop 1 bs))

comment_lies :
    (bs : List ℕ) → 1 ≤ length bs → Lies (suc (length bs)) (skipped (2 + comment_len (drop 1 bs)))
comment_lies bs h =
    let le = (comment_within (drop 1 bs)).0 in
    (omega arith, omega (arith, le, h, length-drop 1 bs))

blob_lies_at :
    (b : ℕ) (bs : List ℕ) → 1 ≤ length bs → Lies (suc (length bs)) (blob_at (b ∷ bs))
blob_lies_at b [] h = absurd (omega (arith, h))
blob_lies_at b (c ∷ cs) h = blob_lies b c cs

pub piece_lies : (b : ℕ) (bs : List ℕ) → Lies (suc (length bs)) (piece_at (b ∷ bs))
unfolding piece_at piece_from
piece_lies b bs =
    chosen n (is_space_byte b) _ _ (λ t. run_lies is_space_byte bs None)
    (chosen n (b == 45 && begins 45 bs) _ _
    (λ t. line_lies (λ c. not (c == 10)) bs (not_empty 45 bs (right_of (b == 45) (begins 45 bs) t)))
    (chosen n (b == 47 && begins 42 bs) _ _
    (λ t. comment_lies bs (not_empty 42 bs (right_of (b == 47) (begins 42 bs) t)))
    (chosen n (b == 39) _ _ (λ t. quoted_lies kind.Text 39 b bs)
    (chosen n ((b == 120 || b == 88) && begins 39 bs) _ _
    (λ t. blob_lies_at b bs (not_empty 39 bs (right_of (b == 120 || b == 88) (begins 39 bs) t)))
    (chosen n (b == 34 || b == 96) _ _ (λ t. quoted_lies kind.Quoted b b bs)
    (chosen n (b == 91) _ _ (λ t. bracket_lies b bs)
    (chosen n (is_word_start b) _ _ (λ t. run_lies is_word_byte bs (Some kind.Word))
    (other_lies b bs))))))))
  where
    n : ℕ
    n = suc (length bs)
