-- What stands first where a number or a parameter does.
use Rattle.std.proofs.Common.{◌≡◌, ℕ, zero, suc, ◌+◌, ◌==◌, ◌||◌, cond, not, ◌⊎◌}
use Rattle.std.proofs.Common.{inl, inr, Bool, true, false, None, Some, List, [], ◌∷◌}
use Rattle.std.proofs.Common.{take, drop, refl, ap, subst, ◌∙◌, arith}
use Rattle.std.specs.List.{prefix_len}
use Rattle.std.specs.Char.{is_ascii_digit}
use Rattle.sql_tokens.specs.Characters.{is_word_byte}
use Rattle.sql_tokens.specs.Pieces.{token, number_at, numbered_parameter_at, named_parameter_at}
use Rattle.sql_tokens.specs.Pieces.{symbol_len}
use Rattle.sql_tokens.specs.declared.token.TokenKind.TheVariants as kind
use Rattle.token_laws.specs.Form.{some_then, nothing, longest}
use Rattle.token_laws.specs.Forms.{is, word_bytes, number, numbered_parameter, named_parameter}
use Rattle.token_laws.specs.Kinds.{IsLongest, goes_on, passes_as_number}
use Rattle.token_laws.specs.Rules as rule
use Rattle.token_laws.specs.Table.{IsFirst}
use Rattle.token_laws.proofs.FirstQuotes.{behind_word, behind_numbers, longest_is}
use Rattle.token_laws.proofs.Longest.{of_byte, more, none_passes}
use Rattle.token_laws.proofs.OneLength.{longest_once, number_or_name}
use Rattle.token_laws.proofs.Openers.{unfit, front_byte}
use Rattle.token_laws.proofs.ParameterNumbers.{number_passes}
use Rattle.token_laws.proofs.Quotes.{same_is}
use Rattle.token_laws.proofs.Runs.{byte_run, some_len, some_run}

pub some_len_is : (n : ℕ) → (n == 0) ≡ false → some_len n ≡ Some n
some_len_is zero h = absurd (cc)
some_len_is (suc n) h = refl

-- whether bytes of a word stand first, by their number
goes_on_is : (bs : List ℕ) → goes_on bs ≡ not (prefix_len is_word_byte bs == 0)
goes_on_is [] = refl
goes_on_is (b ∷ bs) = at (is_word_byte b)
  where
    at : (v : Bool) → v ≡ not (cond v (1 + prefix_len is_word_byte bs) 0 == 0)
    at true = let some : (1 + prefix_len is_word_byte bs == 0) ≡ false = grind arith in rw some refl
    at false = refl

pub number_first :
    (k : ℕ) (bs : List ℕ)
    → longest number bs ≡ Some k
    → IsFirst behind_word bs (number_at k bs)
unfolding number_at
number_first k bs h = at (prefix_len is_word_byte (drop k bs)) _ refl refl
  where
    long : IsLongest number bs k
    long = longest_is number bs k h

    at :
        (n : ℕ) (v : Bool)
        → (n == 0) ≡ v
        → prefix_len is_word_byte (drop k bs) ≡ n
        → IsFirst behind_word bs (token (cond v kind.Number kind.Bad) (k + n))
    at n true e s =
        let none : n ≡ 0 = same_is n 0 e in
        let same : k ≡ k + n = omega (arith, none) in
        let ends : goes_on (drop k bs) ≡ false = goes_on_is (drop k bs) ∙ rw (s, e) refl in
        inl (
          refl,
          subst (λ (m : ℕ). IsLongest number bs m × (goes_on (drop m bs) ≡ false)) same
              (long, ends),
        )
    at n false e s =
        let more_there : goes_on (drop k bs) ≡ true = goes_on_is (drop k bs) ∙ rw (s, e) refl in
        let words : longest word_bytes (drop k bs) ≡ Some n =
        some_run is_word_byte (drop k bs) ∙ ap some_len s ∙ some_len_is n e in
        inr (
          λ m f. absurd (cc (longest_once number bs m k f.0 long, f.1, more_there)),
          inl (refl, (k, (n, (refl, long, longest_is word_bytes (drop k bs) n words)))),
        )

-- parameters
pub numbered_first :
    (b : ℕ) (bs : List ℕ)
    → (b == 63) ≡ true
    → IsFirst behind_numbers (b ∷ bs) (numbered_parameter_at (b ∷ bs))
unfolding numbered_parameter_at
numbered_first b bs t = at _ (number_passes bs)
  where
    k : ℕ
    k = prefix_len is_ascii_digit bs

    long : IsLongest numbered_parameter (b ∷ bs) (1 + k)
    long = longest_is numbered_parameter (b ∷ bs) _
        (byte_run (is 63) is_ascii_digit b bs ∙ rw t refl)

    digits : drop 1 (take (1 + k) (b ∷ bs)) ≡ take k bs
    digits = let one : 1 + k ≡ suc k = omega arith in ap (λ n. drop 1 (take n (b ∷ bs))) one

    at :
        (v : Bool)
        → passes_as_number (take k bs) ≡ v
        → IsFirst behind_numbers (b ∷ bs) (token (cond v kind.Parameter kind.Bad) (1 + k))
    at true e = inl (refl, inl (long, ap passes_as_number digits ∙ e))
    at false e =
        let fails : passes_as_number (drop 1 (take (1 + k) (b ∷ bs))) ≡ false =
        ap passes_as_number digits ∙ e in
        inr (λ m f. not_both m f fails, inl (refl, (long, fails)))
      where
        not_both :
            (m : ℕ)
            → ((IsLongest numbered_parameter (b ∷ bs) m
            × (passes_as_number (drop 1 (take m (b ∷ bs))) ≡ true))
            ⊎ IsLongest named_parameter (b ∷ bs) m)
            → passes_as_number (drop 1 (take (1 + k) (b ∷ bs))) ≡ false
            → ⊥
        not_both m (inl f) wrong =
            absurd (cc (longest_once numbered_parameter (b ∷ bs) m (1 + k) f.0 long, f.1, wrong))
        not_both m (inr f) wrong = number_or_name (b ∷ bs) (1 + k) m long f

no_number : (b : ℕ) → (b == 58 || b == 64 || b == 36) ≡ true → (b == 63) ≡ false
no_number b h = grind arith

no_symbol :
    (b : ℕ) (bs : List ℕ) → (b == 58 || b == 64 || b == 36) ≡ true → symbol_len (b ∷ bs) ≡ 0
unfolding symbol_len
no_symbol b bs h = at (b == 58) refl (b == 64) refl (b == 36) refl h
  where
    at :
        (u : Bool)
        → (b == 58) ≡ u
        → (v : Bool)
        → (b == 64) ≡ v
        → (w : Bool)
        → (b == 36) ≡ w
        → (u || v || w) ≡ true
        → symbol_len (b ∷ bs) ≡ 0
    at true e v f w g t = ap (λ c. symbol_len (c ∷ bs)) (same_is b 58 e)
    at false e true f w g t = ap (λ c. symbol_len (c ∷ bs)) (same_is b 64 f)
    at false e false f true g t = ap (λ c. symbol_len (c ∷ bs)) (same_is b 36 g)
    at false e false f false g t = absurd (cc)

pub named_first :
    (b : ℕ) (bs : List ℕ)
    → (b == 58 || b == 64 || b == 36) ≡ true
    → IsFirst behind_numbers (b ∷ bs) (named_parameter_at (b ∷ bs))
unfolding named_parameter_at
named_first b bs t =
    at (prefix_len is_word_byte bs) _ refl
    (of_byte (λ c. c == 58 || c == 64 || c == 36) (some_then is_word_byte nothing) b bs
    ∙ rw (t, some_run is_word_byte bs) refl)
  where
    numbered : (b == 63) ≡ false
    numbered = no_number b t

    unnamed :
        longest named_parameter (b ∷ bs) ≡ None
        → (m : ℕ)
        → ((IsLongest numbered_parameter (b ∷ bs) m
        × (passes_as_number (drop 1 (take m (b ∷ bs))) ≡ true))
        ⊎ IsLongest named_parameter (b ∷ bs) m)
        → ⊥
    unnamed none m (inl f) = absurd (cc (front_byte (is 63) _ b bs m f.0.1, numbered))
    unnamed none m (inr f) = absurd (cc (none_passes named_parameter (b ∷ bs) m none f.0, f.1))

    at :
        (n : ℕ) (v : Bool)
        → (n == 0) ≡ v
        → longest named_parameter (b ∷ bs) ≡ more (some_len n)
        → IsFirst behind_numbers (b ∷ bs) (token (cond v kind.Bad kind.Parameter) (1 + n))
    at n true e h =
        let none : n ≡ 0 = same_is n 0 e in
        let unseen : longest named_parameter (b ∷ bs) ≡ None =
        h ∙ ap (λ k. more (some_len k)) none in
        inr (
          unnamed unseen,
          inr (
            unfit rule.wrong_parameter b bs numbered,
            inr (
              unfit rule.symbol b bs (rw (no_symbol b bs t) refl),
              (refl, omega (arith, none)),
            ),
          ),
        )
    at n false e h =
        let named : longest named_parameter (b ∷ bs) ≡ Some (1 + n) =
        h ∙ ap more (some_len_is n e) in
        inl (refl, inr (longest_is named_parameter (b ∷ bs) (1 + n) named))
