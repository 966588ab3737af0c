-- The runs of the cut are the longest fronts of their forms.
use Rattle.std.proofs.Common.{◌≡◌, ℕ, zero, suc, ◌+◌, cond, not, Bool, true, false, ◌||◌, ◌&&◌}
use Rattle.std.proofs.Common.{◌==◌, ◌++◌, List, [], ◌∷◌, None, Some, length, drop, refl, ap, sym}
use Rattle.std.proofs.Common.{◌∙◌, arith, rules}
use Rattle.std.specs.Prelude.{Option}
use Rattle.std.specs.List.{prefix_len}
use Rattle.std.specs.Char.{is_ascii_hexdigit}
use Rattle.sql_tokens.specs.Characters.{is_space_byte, is_word_start, is_word_byte}
use Rattle.sql_tokens.specs.Runs.{begins, inside_len, behind_quote_len}
use Rattle.sql_tokens.specs.Pieces.{hex_len}
use Rattle.token_laws.specs.Form.{nothing, byte_then, run_then, some_then, longer, longest}
use Rattle.token_laws.specs.Forms.{is, spaces, line_comment, word, hexadecimal, doubled}
use Rattle.token_laws.proofs.Quotes.{same_byte}
use Rattle.token_laws.proofs.Longest.{of_nothing, of_byte, of_run, more, plus}

run_end : (t : ℕ → Bool) (bs : List ℕ) → longest (run_then t nothing) bs ≡ Some (prefix_len t bs)
run_end t bs = of_run t nothing (λ b q e. refl) bs
    ∙ ap (plus (prefix_len t bs)) (of_nothing (drop (prefix_len t bs) bs)) ∙ ap Some (omega arith)

more_cond : (v : Bool) (n : ℕ) → more (cond v (Some n) None) ≡ cond v (Some (1 + n)) None
more_cond true n = refl
more_cond false n = refl

pub byte_run : (s t : ℕ → Bool) (b : ℕ) (bs : List ℕ)
    → longest (byte_then s (run_then t nothing)) (b ∷ bs)
    ≡ cond (s b) (Some (1 + prefix_len t bs)) None
byte_run s t b bs = of_byte s (run_then t nothing) b bs
    ∙ ap (λ x. more (cond (s b) x None)) (run_end t bs) ∙ more_cond (s b) _

pub spaces_are : (b : ℕ) (bs : List ℕ)
    → longest spaces (b ∷ bs) ≡ cond (is_space_byte b) (Some (1 + prefix_len is_space_byte bs)) None
spaces_are b bs = byte_run is_space_byte is_space_byte b bs

pub word_is : (b : ℕ) (bs : List ℕ)
    → longest word (b ∷ bs) ≡ cond (is_word_start b) (Some (1 + prefix_len is_word_byte bs)) None
word_is b bs = byte_run is_word_start is_word_byte b bs

pub line_is : (b c : ℕ) (bs : List ℕ)
    → longest line_comment (b ∷ c ∷ bs)
    ≡ cond (b == 45) (cond (c == 45) (Some (2 + prefix_len (λ d. not (d == 10)) bs)) None) None
line_is b c bs = of_byte (is 45) (byte_then (is 45) (run_then (λ d. not (d == 10)) nothing)) b
    (c ∷ bs) ∙ ap (λ x. more (cond (b == 45) x None)) (byte_run (is 45) (λ d. not (d == 10)) c bs)
    ∙ ends (b == 45) (c == 45) _
  where
    ends : (v w : Bool) (n : ℕ)
        → more (cond v (cond w (Some (1 + n)) None) None) ≡ cond v (cond w (Some (2 + n)) None) None
    ends true true n = ap Some (omega arith)
    ends true false n = refl
    ends false w n = refl

-- A quoted text: what is found closes at the first quote that is not doubled.
not_next : (q : ℕ) (rest : List ℕ) → begins q rest ≡ false → behind_quote_len q rest ≡ Some 0
not_next q [] e = refl
not_next q (c ∷ cs) e = rw e refl

pub closed_found : (q : ℕ) (v rest : List ℕ) → begins q rest ≡ false
    → inside_len q (doubled q v ++ (q ∷ rest)) ≡ Some (length (doubled q v) + 1)
closed_found q [] rest e = rw (same_byte q, not_next q rest e) refl
closed_found q (b ∷ v) rest e = at (b == q) refl (closed_found q v rest e)
  where
    at : (w : Bool) → (b == q) ≡ w
        → inside_len q (doubled q v ++ (q ∷ rest)) ≡ Some (length (doubled q v) + 1)
        → inside_len q (cond w (q ∷ q ∷ doubled q v) (b ∷ doubled q v) ++ (q ∷ rest))
        ≡ Some (length (cond w (q ∷ q ∷ doubled q v) (b ∷ doubled q v)) + 1)
    at true is later = rw (same_byte q, later) (ap Some (omega arith))
    at false is later = rw (is, later) (ap Some (omega arith))

-- a length that is 0 where there is none
abbrev pub some_len : ℕ → Option ℕ
some_len zero = None
some_len (suc n) = Some (suc n)

pub some_run : (t : ℕ → Bool) (bs : List ℕ)
    → longest (some_then t nothing) bs ≡ some_len (prefix_len t bs)
some_run t [] = refl
some_run t (b ∷ bs) = byte_run t t b bs ∙ ends (t b) (prefix_len t bs)
  where
    ends : (v : Bool) (n : ℕ) → cond v (Some (1 + n)) None ≡ some_len (cond v (1 + n) 0)
    ends true n = let e : 1 + n ≡ suc n = omega arith in rw e refl
    ends false n = refl

pub not_zero : (n : ℕ) → (suc n == 0) ≡ false
not_zero n = search rules

pub hex_is : (bs : List ℕ) → longest hexadecimal bs ≡ some_len (hex_len bs)
unfolding hex_len
hex_is [] = refl
hex_is (a ∷ []) = ends (a == 48)
  where
    ends : (v : Bool) → longer false (cond {A = Option ℕ} (v && false) (Some 0) None) ≡ None
    ends true = refl
    ends false = refl
hex_is (a ∷ b ∷ bs) =
    of_byte (is 48) (byte_then (λ c. c == 120 || c == 88) (some_then is_ascii_hexdigit nothing)) a
    (b ∷ bs)
    ∙ ap (λ x. more (cond (a == 48) x None))
    (of_byte (λ c. c == 120 || c == 88) (some_then is_ascii_hexdigit nothing) b bs
    ∙ ap (λ x. more (cond (b == 120 || b == 88) x None)) (some_run is_ascii_hexdigit bs))
    ∙ ends (a == 48) (b == 120 || b == 88) (prefix_len is_ascii_hexdigit bs)
  where
    ends : (v w : Bool) (n : ℕ)
        → more (cond v (more (cond w (some_len n) None)) None)
        ≡ some_len (cond (v && w) (cond (n == 0) 0 (2 + n)) 0)
    ends true true zero = refl
    ends true true (suc n) = let e : 2 + suc n ≡ suc (suc (suc n)) = omega arith in
        let f : 1 + (1 + suc n) ≡ suc (suc (suc n)) = omega arith in
        ap Some f ∙ ap some_len (sym e)
        ∙ ap (λ b. some_len (cond b 0 (2 + suc n))) (sym (not_zero n))
    ends true false n = refl
    ends false w n = refl
