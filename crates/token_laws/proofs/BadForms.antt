-- A bad form is of one rule.
use Rattle.std.proofs.Common.{◌≡◌, ℕ, zero, suc, ◌+◌, ◌==◌, ◌&&◌, ◌||◌, cond, ◌⊎◌, inl, inr, Bool}
use Rattle.std.proofs.Common.{true, false, Option, None, Some, List, [], ◌∷◌, take, drop, refl, ap}
use Rattle.std.proofs.Common.{sym, ◌∙◌, arith}
use Rattle.std.specs.Prelude.{is_some}
use Rattle.std.specs.Char.{is_ascii_digit}
use Rattle.sql_tokens.specs.Runs.{inside_len}
use Rattle.sql_tokens.specs.declared.token.TokenKind.TheVariants as kind
use Rattle.token_laws.specs.Forms.{number}
use Rattle.token_laws.specs.Kinds.{IsBlobOf}
use Rattle.token_laws.specs.BadTokens.{IsOpen, OpensQuoted, OpensBlob, OpensBracket}
use Rattle.token_laws.specs.Rules.{Rule}
use Rattle.token_laws.specs.Rules as rule
use Rattle.token_laws.specs.Table.{kind_of, BeginsWith}
use Rattle.token_laws.proofs.OneLength.{closed_len}
use Rattle.token_laws.proofs.Openers.{opened}
use Rattle.token_laws.proofs.Quotes.{found, same_is}

zero_is_digit : (b : ℕ) → (b == 48) ≡ true → is_ascii_digit b ≡ true
zero_is_digit b h = grind arith

-- one of a number's forms has its first byte
first_of_three :
    (zero_first digit point x y z : Bool)
    → (zero_first ≡ true → digit ≡ true)
    → (zero_first && x || (digit && y || point && z)) ≡ true
    → (digit || point) ≡ true
first_of_three zero_first true point x y z h e = refl
first_of_three zero_first false true x y z h e = refl
first_of_three true false false x y z h e = absurd (cc (h refl))
first_of_three false false false x y z h e = absurd (cc)

-- a number begins with a digit or a point
number_begins :
    (b : ℕ) (bs : List ℕ) (n : ℕ)
    → number (take n (b ∷ bs)) ≡ true
    → (is_ascii_digit b || b == 46) ≡ true
number_begins b bs zero h = absurd (cc)
number_begins b bs (suc n) h =
    first_of_three (b == 48) (is_ascii_digit b) (b == 46) _ _ _ (zero_is_digit b) h

-- which of the bad forms the bytes can begin with
abbrev bad_rule : List ℕ → Rule
bad_rule [] = rule.unclosed
bad_rule (b ∷ bs) =
    cond (b == 63) rule.wrong_parameter
    (cond (is_ascii_digit b || b == 46) rule.joined_number
    (cond ((b == 120 || b == 88) && is_some (inside_len 39 (drop 1 bs))) rule.unpaired_blob
    rule.unclosed))

digit_no_mark : (b : ℕ) → (is_ascii_digit b || b == 46) ≡ true → (b == 63) ≡ false
digit_no_mark b h = grind arith

x_no_mark : (b : ℕ) → (b == 120 || b == 88) ≡ true → (b == 63) ≡ false
x_no_mark b h = grind arith

x_no_digit : (b : ℕ) → (b == 120 || b == 88) ≡ true → (is_ascii_digit b || b == 46) ≡ false
x_no_digit b h = grind arith

none_found : (bs : List ℕ) → IsOpen 39 bs → is_some (inside_len 39 bs) ≡ false
none_found bs h = at (inside_len 39 bs) refl
  where
    at : (x : Option ℕ) → inside_len 39 bs ≡ x → is_some x ≡ false
    at None e = refl
    at (Some n) e = absurd (h n (found 39 bs n e))

unclosed_rule :
    (b : ℕ) (bs : List ℕ)
    → (OpensQuoted 39 (b ∷ bs) ⊎ (OpensBlob (b ∷ bs) ⊎ (OpensQuoted 34 (b ∷ bs)
    ⊎ (OpensQuoted 96 (b ∷ bs) ⊎ OpensBracket (b ∷ bs)))))
    → rule.unclosed ≡ bad_rule (b ∷ bs)
unclosed_rule b bs (inl h) = ap (λ c. bad_rule (c ∷ bs)) (sym (same_is b 39 h.0))
unclosed_rule b bs (inr (inl h)) =
    rw (x_no_mark b h.0, x_no_digit b h.0, h.0, none_found (drop 1 bs) h.2) refl
unclosed_rule b bs (inr (inr (inl h))) = ap (λ c. bad_rule (c ∷ bs)) (sym (same_is b 34 h.0))
unclosed_rule b bs (inr (inr (inr (inl h)))) = ap (λ c. bad_rule (c ∷ bs)) (sym (same_is b 96 h.0))
unclosed_rule b bs (inr (inr (inr (inr h)))) = ap (λ c. bad_rule (c ∷ bs)) (sym (same_is b 91 h.0))

blob_rule :
    (b : ℕ) (bs : List ℕ) (n : ℕ)
    → IsBlobOf false (b ∷ bs) n
    → rule.unpaired_blob ≡ bad_rule (b ∷ bs)
blob_rule b bs n h =
    rw (x_no_mark b h.0, x_no_digit b h.0, h.0, closed_len 39 (drop 1 bs) (h.2.0 + 1) h.2.1.1) refl

joined_rule :
    (b : ℕ) (bs : List ℕ) (n : ℕ)
    → number (take n (b ∷ bs)) ≡ true
    → rule.joined_number ≡ bad_rule (b ∷ bs)
joined_rule b bs n h =
    let digit = number_begins b bs n h in rw (digit_no_mark b digit, digit) refl

is_bad_rule :
    (r : Rule) (b : ℕ) (bs : List ℕ) (n : ℕ)
    → kind_of r ≡ Some kind.Bad
    → BeginsWith r (b ∷ bs) n
    → r ≡ bad_rule (b ∷ bs)
is_bad_rule rule.spaces b bs n k h = absurd (cc)
is_bad_rule rule.line_comment b bs n k h = absurd (cc)
is_bad_rule rule.block_comment b bs n k h = absurd (cc)
is_bad_rule rule.text b bs n k h = absurd (cc)
is_bad_rule rule.blob b bs n k h = absurd (cc)
is_bad_rule rule.unpaired_blob b bs n k h = blob_rule b bs n h
is_bad_rule rule.quoted b bs n k h = absurd (cc)
is_bad_rule rule.unclosed b bs n k h = unclosed_rule b bs h.1
is_bad_rule rule.word b bs n k h = absurd (cc)
is_bad_rule rule.number b bs n k h = absurd (cc)
is_bad_rule rule.joined_number b bs n k h = joined_rule b bs (h.0) h.1.1.1.1
is_bad_rule rule.parameter b bs n k h = absurd (cc)
is_bad_rule rule.wrong_parameter b bs n k h =
    rw (opened rule.wrong_parameter b bs n h) refl
is_bad_rule rule.symbol b bs n k h = absurd (cc)

pub one_bad_rule :
    (r s : Rule) (b : ℕ) (bs : List ℕ) (m n : ℕ)
    → kind_of r ≡ Some kind.Bad
    → kind_of s ≡ Some kind.Bad
    → BeginsWith r (b ∷ bs) m
    → BeginsWith s (b ∷ bs) n
    → r ≡ s
one_bad_rule r s b bs m n j k h g =
    is_bad_rule r b bs m j h ∙ sym (is_bad_rule s b bs n k g)
