-- What stands first where a bracket does.
use Rattle.std.proofs.Common.{◌≡◌, ℕ, suc, ◌+◌, ◌<◌, ◌≤◌, ◌==◌, ◌&&◌, cond, not, inl, inr, Bool}
use Rattle.std.proofs.Common.{true, false, None, Some, List, [], ◌∷◌, length, drop, refl, ap}
use Rattle.std.proofs.Common.{sym, subst, ◌∙◌, arith, drop_of_length-le}
use Rattle.std.specs.List.{prefix_len}
use Rattle.std.specs.Prelude.{nat_lt}
use Rattle.sql_tokens.specs.Pieces.{token, bracket_at}
use Rattle.sql_tokens.specs.declared.token.TokenKind.TheVariants as kind
use Rattle.token_laws.specs.Form.{Form, nothing, byte_then, run_then, longest}
use Rattle.token_laws.specs.Forms.{is, bracketed}
use Rattle.token_laws.specs.Kinds.{IsQuoted}
use Rattle.token_laws.specs.Table.{IsFirst}
use Rattle.token_laws.proofs.FirstQuotes.{behind_blobs, longest_is}
use Rattle.token_laws.proofs.Longest.{none_passes, of_byte, of_run, of_nothing}
use Rattle.token_laws.proofs.Quotes.{same_is}

open_is_unclosed : (b : ℕ) → (b == 91) ≡ true → (b == 93) ≡ false
open_is_unclosed b h = grind arith

abbrev closing : Form
closing = byte_then (is 93) nothing

stops : (b : ℕ) (bs : List ℕ) → not (b == 93) ≡ true → closing (b ∷ bs) ≡ false
stops b bs h = at (b == 93) refl h
  where
    at : (v : Bool) → (b == 93) ≡ v → not v ≡ true → ((b == 93) && nothing bs) ≡ false
    at true e g = absurd (cc)
    at false e g = rw e refl

closing_is :
    (bs : List ℕ)
    → prefix_len (λ c. not (c == 93)) bs < length bs
    → longest closing (drop (prefix_len (λ c. not (c == 93)) bs) bs) ≡ Some 1
closing_is [] lt = absurd (omega (arith, lt))
closing_is (c ∷ cs) lt = at (c == 93) refl (closing_is cs) lt
  where
    k : ℕ
    k = prefix_len (λ d. not (d == 93)) cs

    at :
        (v : Bool)
        → (c == 93) ≡ v
        → (k < length cs → longest closing (drop k cs) ≡ Some 1)
        → cond (not v) (1 + k) 0 < suc (length cs)
        → longest closing (drop (cond (not v) (1 + k) 0) (c ∷ cs)) ≡ Some 1
    at true e later le = of_byte (is 93) nothing c cs ∙ rw (e, of_nothing cs) refl
    at false e later le =
        let one : 1 + k ≡ suc k = omega arith in
        ap (λ n. longest closing (drop n (c ∷ cs))) one ∙ later (omega (arith, le))

brackets_are :
    (b : ℕ) (bs : List ℕ)
    → (b == 91) ≡ true
    → prefix_len (λ c. not (c == 93)) (b ∷ bs) < suc (length bs)
    → longest bracketed (b ∷ bs) ≡ Some (prefix_len (λ c. not (c == 93)) (b ∷ bs) + 1)
brackets_are b bs t lt =
    let k :
    prefix_len (λ c. not (c == 93)) (b ∷ bs) ≡ 1 + prefix_len (λ c. not (c == 93)) bs =
    rw (open_is_unclosed b t) refl in
    let inside : prefix_len (λ c. not (c == 93)) bs < length bs = omega (arith, lt, k) in
    of_byte (is 91) (run_then (λ c. not (c == 93)) closing) b bs
    ∙ rw (t, of_run (λ c. not (c == 93)) closing stops bs, closing_is bs inside)
    (ap Some (omega (arith, k)))

no_bracket_closes :
    (b : ℕ) (bs : List ℕ)
    → (b == 91) ≡ true
    → suc (length bs) ≤ prefix_len (λ c. not (c == 93)) (b ∷ bs)
    → longest bracketed (b ∷ bs) ≡ None
no_bracket_closes b bs t ge =
    let k :
    prefix_len (λ c. not (c == 93)) (b ∷ bs) ≡ 1 + prefix_len (λ c. not (c == 93)) bs =
    rw (open_is_unclosed b t) refl in
    let all : length bs ≤ prefix_len (λ c. not (c == 93)) bs = omega (arith, ge, k) in
    of_byte (is 91) (run_then (λ c. not (c == 93)) closing) b bs
    ∙ rw (t, of_run (λ c. not (c == 93)) closing stops bs, drop_of_length-le bs all) refl

bracket_at_bracket : (bs : List ℕ) → IsFirst behind_blobs (91 ∷ bs) (bracket_at (91 ∷ bs))
unfolding bracket_at
bracket_at_bracket bs = at _ refl
  where
    n : ℕ
    n = prefix_len (λ c. not (c == 93)) (91 ∷ bs)

    only_bracket :
        (m : ℕ) → longest bracketed (91 ∷ bs) ≡ None → IsQuoted (91 ∷ bs) m → ⊥
    only_bracket m none (inl h) = absurd (cc (h.0))
    only_bracket m none (inr (inl h)) = absurd (cc (h.0))
    only_bracket m none (inr (inr h)) =
        absurd (cc (none_passes bracketed (91 ∷ bs) m none h.0, h.1))

    at :
        (v : Bool)
        → nat_lt n (suc (length bs)) ≡ v
        → IsFirst behind_blobs (91 ∷ bs)
        (cond v (token kind.Quoted (n + 1)) (token kind.Bad (suc (length bs))))
    at true e =
        let lt : n < suc (length bs) = grind (arith, e) in
        inl (refl, inr (inr (longest_is bracketed (91 ∷ bs) (n + 1) (brackets_are 91 bs refl lt))))
    at false e =
        let ge : suc (length bs) ≤ n = grind (arith, e) in
        let none = no_bracket_closes 91 bs refl ge in
        inr (
          λ m f. only_bracket m none f,
          inl (
            refl,
            (
              refl,
              inr (inr (inr (inr (
                refl,
                λ m le. none_passes bracketed (91 ∷ bs) m none le,
              )))),
            ),
          ),
        )

pub bracket_first :
    (b : ℕ) (bs : List ℕ)
    → (b == 91) ≡ true
    → IsFirst behind_blobs (b ∷ bs) (bracket_at (b ∷ bs))
bracket_first b bs t =
    subst (λ (c : ℕ). IsFirst behind_blobs (c ∷ bs) (bracket_at (c ∷ bs)))
    (sym (same_is b 91 t)) (bracket_at_bracket bs)
