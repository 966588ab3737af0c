-- With which bytes each rule begins.
use Rattle.std.proofs.Common.{◌≡◌, ℕ, zero, suc, ◌==◌, ◌&&◌, ◌||◌, not, ◌⊎◌, inl, inr, Bool}
use Rattle.std.proofs.Common.{true, false, List, [], ◌∷◌, take, refl}
use Rattle.sql_tokens.specs.Characters.{is_space_byte, is_word_start}
use Rattle.sql_tokens.specs.Runs.{begins}
use Rattle.sql_tokens.specs.Pieces.{number_len, symbol_len}
use Rattle.token_laws.specs.Form.{Form, byte_then, longest}
use Rattle.token_laws.specs.Forms.{is, number, symbol}
use Rattle.token_laws.specs.Kinds.{IsLongest}
use Rattle.token_laws.specs.BadTokens.{OpensQuoted, OpensBlob, OpensBracket}
use Rattle.token_laws.specs.Rules.{Rule}
use Rattle.token_laws.specs.Rules as rule
use Rattle.token_laws.specs.Table.{BeginsWith}
use Rattle.token_laws.proofs.Booleans.{right_of, left_of, both, first_or, or_second}
use Rattle.token_laws.proofs.Longest.{none_passes}
use Rattle.token_laws.proofs.Numbers.{number_is}
use Rattle.token_laws.proofs.Runs.{some_len, not_zero}
use Rattle.token_laws.proofs.Symbols.{symbol_is}

-- the first byte of a front that has such a form
pub front_byte :
    (t : ℕ → Bool) (f : Form) (b : ℕ) (bs : List ℕ) (n : ℕ)
    → byte_then t f (take n (b ∷ bs)) ≡ true
    → t b ≡ true
front_byte t f b bs zero h = absurd (cc)
front_byte t f b bs (suc n) h = left_of (t b) (f (take n bs)) h

-- the same where the byte is known
pub front_begins :
    (k : ℕ) (f : Form) (bs : List ℕ) (n : ℕ)
    → byte_then (is k) f (take n bs) ≡ true
    → begins k bs ≡ true
front_begins k f [] zero h = absurd (cc)
front_begins k f [] (suc n) h = absurd (cc)
front_begins k f (b ∷ bs) n h = front_byte (is k) f b bs n h

second_begins :
    (j k : ℕ) (f : Form) (b : ℕ) (bs : List ℕ) (n : ℕ)
    → byte_then (is j) (byte_then (is k) f) (take n (b ∷ bs)) ≡ true
    → begins k bs ≡ true
second_begins j k f b bs zero h = absurd (cc)
second_begins j k f b bs (suc n) h =
    front_begins k f bs n (right_of (b == j) (byte_then (is k) f (take n bs)) h)

-- a form of which some front is there has a run
some_run_of :
    (f : Form) (bs : List ℕ) (k n : ℕ)
    → longest f bs ≡ some_len k
    → IsLongest f bs n
    → not (k == 0) ≡ true
some_run_of f bs zero n e l = absurd (cc (none_passes f bs n e l.0, l.1))
some_run_of f bs (suc k) n e l = rw (not_zero k) refl

-- the test of the first bytes that each rule passes
abbrev pub opens : Rule → ℕ → List ℕ → Bool
opens rule.spaces b bs = is_space_byte b
opens rule.line_comment b bs = b == 45 && begins 45 bs
opens rule.block_comment b bs = b == 47 && begins 42 bs
opens rule.text b bs = b == 39
opens rule.blob b bs = (b == 120 || b == 88) && begins 39 bs
opens rule.unpaired_blob b bs = (b == 120 || b == 88) && begins 39 bs
opens rule.quoted b bs = b == 34 || b == 96 || b == 91
opens rule.unclosed b bs =
    b == 39 || ((b == 120 || b == 88) && begins 39 bs) || (b == 34 || b == 96 || b == 91)
opens rule.word b bs = is_word_start b
opens rule.number b bs = not (number_len (b ∷ bs) == 0)
opens rule.joined_number b bs = not (number_len (b ∷ bs) == 0)
opens rule.parameter b bs = b == 63 || (b == 58 || b == 64 || b == 36)
opens rule.wrong_parameter b bs = b == 63
opens rule.symbol b bs = not (symbol_len (b ∷ bs) == 0)

quote_or_bracket :
    (b : ℕ) (bs : List ℕ)
    → (OpensQuoted 34 (b ∷ bs) ⊎ (OpensQuoted 96 (b ∷ bs) ⊎ OpensBracket (b ∷ bs)))
    → opens rule.quoted b bs ≡ true
quote_or_bracket b bs (inl h) = first_or _ (b == 91) (first_or (b == 34) (b == 96) h.0)
quote_or_bracket b bs (inr (inl h)) = first_or _ (b == 91) (or_second (b == 34) (b == 96) h.0)
quote_or_bracket b bs (inr (inr h)) = or_second (b == 34 || b == 96) (b == 91) h.0

pub opened :
    (r : Rule) (b : ℕ) (bs : List ℕ) (n : ℕ) → BeginsWith r (b ∷ bs) n → opens r b bs ≡ true
opened rule.spaces b bs n h = front_byte is_space_byte _ b bs n h.1
opened rule.line_comment b bs n h =
    both (b == 45) (begins 45 bs) (front_byte (is 45) _ b bs n h.1)
    (second_begins 45 45 _ b bs n h.1)
opened rule.block_comment b bs n h = both (b == 47) (begins 42 bs) h.0 h.1
opened rule.text b bs n h = h.0
opened rule.blob b bs n h = both (b == 120 || b == 88) (begins 39 bs) h.0 h.1
opened rule.unpaired_blob b bs n h = both (b == 120 || b == 88) (begins 39 bs) h.0 h.1
opened rule.quoted b bs n (inl h) = first_or _ (b == 91) (first_or (b == 34) (b == 96) h.0)
opened rule.quoted b bs n (inr (inl h)) = first_or _ (b == 91) (or_second (b == 34) (b == 96) h.0)
opened rule.quoted b bs n (inr (inr h)) =
    or_second (b == 34 || b == 96) (b == 91) (front_byte (is 91) _ b bs n h.1)
opened rule.unclosed b bs n h = at (h.1)
  where
    blob : Bool
    blob = (b == 120 || b == 88) && begins 39 bs

    at :
        (OpensQuoted 39 (b ∷ bs) ⊎ (OpensBlob (b ∷ bs) ⊎ (OpensQuoted 34 (b ∷ bs)
        ⊎ (OpensQuoted 96 (b ∷ bs) ⊎ OpensBracket (b ∷ bs)))))
        → opens rule.unclosed b bs ≡ true
    at (inl o) = first_or _ (opens rule.quoted b bs) (first_or (b == 39) blob o.0)
    at (inr (inl o)) =
        first_or _ (opens rule.quoted b bs) (or_second (b == 39) blob
        (both (b == 120 || b == 88) (begins 39 bs) o.0 o.1))
    at (inr (inr o)) =
        or_second (b == 39 || blob) (opens rule.quoted b bs) (quote_or_bracket b bs o)
opened rule.word b bs n h = front_byte is_word_start _ b bs n h.1
opened rule.number b bs n h =
    some_run_of number (b ∷ bs) (number_len (b ∷ bs)) n (number_is (b ∷ bs)) h.0
opened rule.joined_number b bs n h =
    some_run_of number (b ∷ bs) (number_len (b ∷ bs)) (h.0) (number_is (b ∷ bs)) h.1.1.1
opened rule.parameter b bs n (inl h) =
    first_or (b == 63) (b == 58 || b == 64 || b == 36) (front_byte (is 63) _ b bs n h.0.1)
opened rule.parameter b bs n (inr h) =
    or_second (b == 63) (b == 58 || b == 64 || b == 36)
    (front_byte (λ c. c == 58 || c == 64 || c == 36) _ b bs n h.1)
opened rule.wrong_parameter b bs n h = front_byte (is 63) _ b bs n h.0.1
opened rule.symbol b bs n h =
    some_run_of symbol (b ∷ bs) (symbol_len (b ∷ bs)) n (symbol_is b bs) h.1

-- so a rule doesn't fit where its first bytes aren't there
pub unfit :
    (r : Rule) (b : ℕ) (bs : List ℕ)
    → opens r b bs ≡ false
    → (n : ℕ)
    → BeginsWith r (b ∷ bs) n
    → ⊥
unfit r b bs h n f = absurd (cc (opened r b bs n f, h))
