-- Pairs of digits, as the run of digits up to the quote tells them.
use Rattle.std.proofs.Common.{◌≡◌, ℕ, suc, ◌+◌, ◌%◌, ◌==◌, ◌&&◌, cond, Bool, true, false}
use Rattle.std.proofs.Common.{List, [], ◌∷◌, ◌++◌, length, refl, ap, sym, ◌∙◌, arith}
use Rattle.std.specs.List.{prefix_len}
use Rattle.std.specs.Char.{is_ascii_hexdigit}
use Rattle.std.proofs.Math.Nat.{add-mod_left}
use Rattle.token_laws.specs.Forms.{pairs}

-- all bytes before the quote are digits, and even in number
abbrev pub all_even : ℕ → ℕ → Bool
all_even digits m = digits % 2 == 0 && m + 1 == digits + 1

two_more : (d m : ℕ) → all_even d m ≡ all_even (1 + (1 + d)) (suc (suc m))
two_more d m =
    let two : 1 + (1 + d) ≡ 2 + d = omega arith in
    let even : (1 + (1 + d)) % 2 ≡ d % 2 = ap (λ n. n % 2) two ∙ add-mod_left 2 d in
    rw even (ap (λ v. d % 2 == 0 && v) (grind arith))

longer_than_none : (m : ℕ) → (suc (suc m) + 1 == 0 + 1) ≡ false
longer_than_none m = grind arith

pub pairs_are :
    (bytes rest : List ℕ)
    → pairs bytes ≡ all_even (prefix_len is_ascii_hexdigit (bytes ++ 39 ∷ rest)) (length bytes)
pairs_are [] rest = refl
pairs_are (a ∷ []) rest = at (is_ascii_hexdigit a)
  where
    at : (v : Bool) → false ≡ all_even (cond v (1 + 0) 0) 1
    at true = refl
    at false = refl
pairs_are (a ∷ b ∷ bs) rest = at (is_ascii_hexdigit a) (is_ascii_hexdigit b) (pairs_are bs rest)
  where
    d : ℕ
    d = prefix_len is_ascii_hexdigit (bs ++ 39 ∷ rest)

    at :
        (v w : Bool)
        → pairs bs ≡ all_even d (length bs)
        → (v && w && pairs bs)
        ≡ all_even (cond v (1 + cond w (1 + d) 0) 0) (suc (suc (length bs)))
    at true true later = later ∙ two_more d (length bs)
    at true false later = refl
    at false w later = sym (longer_than_none (length bs))
