-- Each rule fits with one length at most.
use Rattle.std.proofs.Common.{◌≡◌, ℕ, zero, suc, ◌+◌, ◌<◌, ◌==◌, ◌||◌, ◌⊎◌, inl, inr, Bool, true}
use Rattle.std.proofs.Common.{false, Some, List, [], ◌∷◌, length, take, drop, refl, ap, sym}
use Rattle.std.proofs.Common.{subst, ◌∙◌, arith}
use Rattle.sql_tokens.specs.Runs.{begins, inside_len}
use Rattle.token_laws.specs.Form.{Form}
use Rattle.token_laws.specs.Forms.{is, Closed, spaces, line_comment, word, word_bytes, number}
use Rattle.token_laws.specs.Forms.{bracketed, numbered_parameter, named_parameter, symbol}
use Rattle.token_laws.specs.Kinds.{IsLongest, IsCommentRest, IsComment, IsBetweenQuotes, IsQuoted}
use Rattle.token_laws.specs.Kinds.{IsBlobOf, IsParameter, has_comment_end}
use Rattle.token_laws.specs.BadTokens.{IsJoinedNumber}
use Rattle.token_laws.specs.Rules.{Rule}
use Rattle.token_laws.specs.Rules as rule
use Rattle.token_laws.specs.Table.{BeginsWith}
use Rattle.token_laws.proofs.Openers.{front_byte, front_begins}
use Rattle.token_laws.proofs.Quotes.{same_is}
use Rattle.token_laws.proofs.Runs.{closed_found}

-- numbers of which neither is below the other
same_number : (m n : ℕ) → (m < n → ⊥) → (n < m → ⊥) → m ≡ n
same_number zero zero h g = refl
same_number zero (suc n) h g = absurd (h (omega arith))
same_number (suc m) zero h g = absurd (g (omega arith))
same_number (suc m) (suc n) h g =
    ap suc (same_number m n (λ l. h (omega (arith, l))) (λ l. g (omega (arith, l))))

pub longest_once :
    (f : Form) (bs : List ℕ) (m n : ℕ) → IsLongest f bs m → IsLongest f bs n → m ≡ n
longest_once f bs m n h g =
    same_number m n (λ l. absurd (cc (h.2 n l g.0, g.1))) (λ l. absurd (cc (g.2 m l h.0, h.1)))

comment_not_shorter :
    (bs : List ℕ) (m n : ℕ) → IsCommentRest bs m → IsCommentRest bs n → m < n → ⊥
comment_not_shorter bs m n h g l = at (h.2)
  where
    at : (has_comment_end (take m bs) ≡ true ⊎ m ≡ length bs) → ⊥
    at (inl t) = absurd (cc (g.1 m l, t))
    at (inr e) = let le = g.0 in omega (arith, l, e, le)

comment_once : (bytes : List ℕ) (m n : ℕ) → IsComment bytes m → IsComment bytes n → m ≡ n
comment_once bytes m n h g =
    h.2.1.0
    ∙ ap (λ k. 2 + k)
    (same_number (h.2.0) (g.2.0)
    (comment_not_shorter (drop 2 bytes) (h.2.0) (g.2.0) (h.2.1.1) (g.2.1.1))
    (comment_not_shorter (drop 2 bytes) (g.2.0) (h.2.0) (g.2.1.1) (h.2.1.1)))
    ∙ sym (g.2.1.0)

pub closed_len : (q : ℕ) (bs : List ℕ) (n : ℕ) → Closed q bs n → inside_len q bs ≡ Some n
closed_len q bs n c =
    ap (λ xs. inside_len q xs) c.made ∙ closed_found q c.value c.rest c.ends
    ∙ ap Some (sym c.len)

pub closed_once : (q : ℕ) (bs : List ℕ) (m n : ℕ) → Closed q bs m → Closed q bs n → m ≡ n
closed_once q bs m n c d =
    let a = closed_len q bs m c in let b = closed_len q bs n d in cc (a, b)

between_once :
    (q : ℕ) (bytes : List ℕ) (m n : ℕ)
    → IsBetweenQuotes q bytes m
    → IsBetweenQuotes q bytes n
    → m ≡ n
between_once q bytes m n h g =
    h.1.1.0
    ∙ ap (λ k. k + 1) (closed_once q (drop 1 bytes) (h.1.0) (g.1.0) (h.1.1.1) (g.1.1.1))
    ∙ sym (g.1.1.0)

blob_once :
    (v : Bool) (bytes : List ℕ) (m n : ℕ) → IsBlobOf v bytes m → IsBlobOf v bytes n → m ≡ n
blob_once v bytes m n h g =
    let same : h.2.0 + 1 ≡ g.2.0 + 1 =
    closed_once 39 (drop 2 bytes) (h.2.0 + 1) (g.2.0 + 1) (h.2.1.1) (g.2.1.1) in
    let a = h.2.1.0 in let b = g.2.1.0 in omega (arith, same, a, b)

-- no two bytes stand first
two_firsts :
    (p q : ℕ) (bytes : List ℕ) → begins p bytes ≡ true → begins q bytes ≡ true → p ≡ q
two_firsts p q [] h g = absurd (cc)
two_firsts p q (b ∷ bs) h g = sym (same_is b p h) ∙ same_is b q g

quoted_once : (bytes : List ℕ) (m n : ℕ) → IsQuoted bytes m → IsQuoted bytes n → m ≡ n
quoted_once bytes m n (inl h) (inl g) = between_once 34 bytes m n h g
quoted_once bytes m n (inl h) (inr (inl g)) =
    let e = two_firsts 34 96 bytes h.0 g.0 in absurd (omega (arith, e))
quoted_once bytes m n (inl h) (inr (inr g)) =
    let e = two_firsts 34 91 bytes h.0 (front_begins 91 _ bytes n g.1) in absurd (omega (arith, e))
quoted_once bytes m n (inr (inl h)) (inl g) =
    let e = two_firsts 96 34 bytes h.0 g.0 in absurd (omega (arith, e))
quoted_once bytes m n (inr (inl h)) (inr (inl g)) = between_once 96 bytes m n h g
quoted_once bytes m n (inr (inl h)) (inr (inr g)) =
    let e = two_firsts 96 91 bytes h.0 (front_begins 91 _ bytes n g.1) in absurd (omega (arith, e))
quoted_once bytes m n (inr (inr h)) (inl g) =
    let e = two_firsts 91 34 bytes (front_begins 91 _ bytes m h.1) g.0 in absurd (omega (arith, e))
quoted_once bytes m n (inr (inr h)) (inr (inl g)) =
    let e = two_firsts 91 96 bytes (front_begins 91 _ bytes m h.1) g.0 in absurd (omega (arith, e))
quoted_once bytes m n (inr (inr h)) (inr (inr g)) = longest_once bracketed bytes m n h g

joined_once :
    (bytes : List ℕ) (m n : ℕ) → IsJoinedNumber bytes m → IsJoinedNumber bytes n → m ≡ n
joined_once bytes m n h g =
    let number_same : h.0 ≡ g.0 = longest_once number bytes (h.0) (g.0) h.1.1.1 g.1.1.1 in
    let word_there : IsLongest word_bytes (drop g.0 bytes) (h.1.0) =
    subst (λ (k : ℕ). IsLongest word_bytes (drop k bytes) (h.1.0)) number_same h.1.1.2 in
    let word_same : h.1.0 ≡ g.1.0 =
    longest_once word_bytes (drop g.0 bytes) (h.1.0) (g.1.0) word_there g.1.1.2 in
    let a = h.1.1.0 in let b = g.1.1.0 in omega (arith, number_same, word_same, a, b)

no_name : (b : ℕ) → (b == 63) ≡ true → (b == 58 || b == 64 || b == 36) ≡ true → ⊥
no_name b h g = grind arith

-- a parameter has a number or a name
pub number_or_name :
    (bytes : List ℕ) (m n : ℕ)
    → IsLongest numbered_parameter bytes m
    → IsLongest named_parameter bytes n
    → ⊥
number_or_name [] zero n h g = absurd (cc (h.1))
number_or_name [] (suc m) n h g = absurd (cc (h.1))
number_or_name (b ∷ bs) m n h g =
    no_name b (front_byte (is 63) _ b bs m h.1)
    (front_byte (λ c. c == 58 || c == 64 || c == 36) _ b bs n g.1)

parameter_once :
    (bytes : List ℕ) (m n : ℕ) → IsParameter bytes m → IsParameter bytes n → m ≡ n
parameter_once bytes m n (inl h) (inl g) = longest_once numbered_parameter bytes m n h.0 g.0
parameter_once bytes m n (inl h) (inr g) = absurd (number_or_name bytes m n h.0 g)
parameter_once bytes m n (inr h) (inl g) = absurd (number_or_name bytes n m g.0 h)
parameter_once bytes m n (inr h) (inr g) = longest_once named_parameter bytes m n h g

pub one_length :
    (r : Rule) (bytes : List ℕ) (m n : ℕ)
    → BeginsWith r bytes m
    → BeginsWith r bytes n
    → m ≡ n
one_length rule.spaces bytes m n h g = longest_once spaces bytes m n h g
one_length rule.line_comment bytes m n h g = longest_once line_comment bytes m n h g
one_length rule.block_comment bytes m n h g = comment_once bytes m n h g
one_length rule.text bytes m n h g = between_once 39 bytes m n h g
one_length rule.blob bytes m n h g = blob_once true bytes m n h g
one_length rule.unpaired_blob bytes m n h g = blob_once false bytes m n h g
one_length rule.quoted bytes m n h g = quoted_once bytes m n h g
one_length rule.unclosed bytes m n h g = h.0 ∙ sym (g.0)
one_length rule.word bytes m n h g = longest_once word bytes m n h g
one_length rule.number bytes m n h g = longest_once number bytes m n h.0 g.0
one_length rule.joined_number bytes m n h g = joined_once bytes m n h g
one_length rule.parameter bytes m n h g = parameter_once bytes m n h g
one_length rule.wrong_parameter bytes m n h g = longest_once numbered_parameter bytes m n h.0 g.0
one_length rule.symbol bytes m n h g = longest_once symbol bytes m n h.1 g.1
