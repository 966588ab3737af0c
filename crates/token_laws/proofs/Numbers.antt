-- The run of a number is the longest front of its forms.
use Rattle.std.proofs.Common.{◌≡◌, ℕ, zero, suc, ◌+◌, ◌<◌, ◌≤◌, cond, Bool, true, false, ◌||◌, ◌&&◌}
use Rattle.std.proofs.Common.{◌==◌, List, [], ◌∷◌, None, Some, drop, drop-drop, refl, ap, sym, ◌∙◌}
use Rattle.std.proofs.Common.{arith}
use Rattle.std.specs.Prelude.{Option}
use Rattle.std.specs.List.{prefix_len}
use Rattle.std.specs.Char.{is_ascii_digit, is_ascii_hexdigit}
use Rattle.sql_tokens.specs.Runs.{begins}
use Rattle.sql_tokens.specs.Pieces.{parts_len, exponent_len, hex_len, decimal_len, number_len}
use Rattle.token_laws.specs.Form.{Form, nothing, byte_then, run_then, some_then, either, maybe}
use Rattle.token_laws.specs.Form.{longest}
use Rattle.token_laws.specs.Forms.{is, digits, exponent, decimal, hexadecimal, number}
use Rattle.token_laws.proofs.Longest.{of_nothing, of_byte, of_run, of_either, more, plus, most}
use Rattle.token_laws.proofs.Runs.{some_len, some_run, hex_is, not_zero}

abbrev e_byte : ℕ → Bool
e_byte b = b == 101 || b == 69

-- a sign is no digit
sign_no_digit : (c : ℕ) → (c == 43 || c == 45) ≡ true → is_ascii_digit c ≡ false
sign_no_digit c h = grind arith

abbrev signed : Form
signed = byte_then (λ b. b == 43 || b == 45) digits

ends_two : (v : Bool) (k : ℕ)
    → more (cond v (more (some_len k)) None) ≡ some_len (cond v (cond (k == 0) 0 (1 + (1 + k))) 0)
ends_two true zero = refl
ends_two true (suc n) = let f : 1 + (1 + suc n) ≡ suc (suc (suc n)) = omega arith in
    ap Some f ∙ ap some_len (sym f)
    ∙ ap (λ b. some_len (cond b 0 (1 + (1 + suc n)))) (sym (not_zero n))
ends_two false k = refl

ends_one : (v : Bool) (k : ℕ)
    → more (cond v (some_len k) None) ≡ some_len (cond v (cond (k == 0) 0 (1 + (0 + k))) 0)
ends_one true zero = refl
ends_one true (suc n) = let f : 1 + suc n ≡ suc (suc n) = omega arith in
    let g : 1 + (0 + suc n) ≡ suc (suc n) = omega arith in
    ap Some f ∙ ap some_len (sym g)
    ∙ ap (λ b. some_len (cond b 0 (1 + (0 + suc n)))) (sym (not_zero n))
ends_one false k = refl

most_none : (x : Option ℕ) → most x None ≡ x
most_none None = refl
most_none (Some n) = refl

-- what stands behind the letter
tail_is : (v : Bool) (bs : List ℕ)
    → more (cond v (most (longest digits bs)
    (longest (byte_then (λ b. b == 43 || b == 45) digits) bs)) None)
    ≡ some_len (cond v (cond
    (prefix_len is_ascii_digit (drop (cond (begins 43 bs || begins 45 bs) 1 0) bs) == 0) 0
    (1 + (cond (begins 43 bs || begins 45 bs) 1 0 + prefix_len is_ascii_digit
    (drop (cond (begins 43 bs || begins 45 bs) 1 0) bs)))) 0)
tail_is true [] = refl
tail_is false [] = refl
tail_is v (c ∷ cs) = at (c == 43 || c == 45) refl
  where
    at : (w : Bool) → (c == 43 || c == 45) ≡ w
        → more (cond v (most (longest digits (c ∷ cs))
        (longest (byte_then (λ b. b == 43 || b == 45) digits) (c ∷ cs))) None)
        ≡ some_len (cond v (cond (prefix_len is_ascii_digit (drop (cond w 1 0) (c ∷ cs)) == 0) 0
        (1 + (cond w 1 0 + prefix_len is_ascii_digit (drop (cond w 1 0) (c ∷ cs))))) 0)
    at true is = rw (
      some_run is_ascii_digit (c ∷ cs),
      sign_no_digit c is,
      of_byte (λ b. b == 43 || b == 45) digits c cs,
      is,
      some_run is_ascii_digit cs,
    )
        (ends_two v (prefix_len is_ascii_digit cs))
    at false is = rw (
      some_run is_ascii_digit (c ∷ cs),
      of_byte (λ b. b == 43 || b == 45) digits c cs,
      is,
      most_none
          (some_len (prefix_len is_ascii_digit (c ∷ cs))),
    )
        (ends_one v (prefix_len is_ascii_digit (c ∷ cs)))

pub exponent_is : (bs : List ℕ) → longest exponent bs ≡ some_len (exponent_len bs)
unfolding exponent_len
exponent_is [] = refl
exponent_is (b ∷ bs) =
    of_byte e_byte (either digits signed) b bs
    ∙ ap (λ x. more (cond (b == 101 || b == 69) x None)) (of_either digits signed bs)
    ∙ tail_is (b == 101 || b == 69) bs

with_zero : (n : ℕ) → most (some_len n) (Some 0) ≡ Some n
with_zero zero = refl
with_zero (suc n) = ap Some (omega arith)

pub maybe_is : (bs : List ℕ) → longest (maybe exponent) bs ≡ Some (exponent_len bs)
maybe_is bs = of_either exponent nothing bs
    ∙ rw (exponent_is bs, of_nothing bs) (with_zero (exponent_len bs))

digit_no_e : (c : ℕ) → is_ascii_digit c ≡ true → (c == 101 || c == 69) ≡ false
digit_no_e c h = grind arith

no_digit_first : (c : ℕ) (cs : List ℕ) → is_ascii_digit c ≡ true → maybe exponent (c ∷ cs) ≡ false
no_digit_first c cs h = rw (digit_no_e c h) refl

-- digits, and then an exponent or nothing
pub digits_maybe_is : (bs : List ℕ)
    → longest (run_then is_ascii_digit (maybe exponent)) bs
    ≡ Some (prefix_len is_ascii_digit bs + exponent_len (drop (prefix_len is_ascii_digit bs) bs))
digits_maybe_is bs =
    of_run is_ascii_digit (maybe exponent) no_digit_first bs
    ∙ ap (plus (prefix_len is_ascii_digit bs)) (maybe_is (drop (prefix_len is_ascii_digit bs) bs))

point_no_e : (c : ℕ) → (c == 46) ≡ true → (c == 101 || c == 69) ≡ false
point_no_e c h = grind arith

abbrev point_part : Form
point_part = byte_then (is 46) (run_then is_ascii_digit (maybe exponent))

-- a point with digits, and an exponent or nothing
abbrev pub behind_len : List ℕ → ℕ
behind_len bs = cond (begins 46 bs)
    (1 + (prefix_len is_ascii_digit (drop 1 bs) + exponent_len
    (drop (prefix_len is_ascii_digit (drop 1 bs)) (drop 1 bs)))) (exponent_len bs)

pub behind_is : (bs : List ℕ)
    → longest (either (maybe exponent) point_part) bs ≡ Some (behind_len bs)
unfolding exponent_len
behind_is [] = refl
behind_is (c ∷ cs) =
    of_either (maybe exponent) point_part (c ∷ cs)
    ∙ rw (
      maybe_is (c ∷ cs),
      of_byte (is 46) (run_then is_ascii_digit (maybe exponent)) c cs,
      digits_maybe_is cs,
    ) (at (c == 46) refl _)
  where
    at : (w : Bool) → (c == 46) ≡ w → (n : ℕ)
        → most (Some (exponent_len (c ∷ cs))) (more (cond w (Some n) None))
        ≡ Some (cond w (1 + n) (exponent_len (c ∷ cs)))
    at true is n = rw (point_no_e c is) (ap Some (omega arith))
    at false is n = refl

digit_no_point : (c : ℕ) → is_ascii_digit c ≡ true → (c == 46) ≡ false
digit_no_point c h = grind arith

neither_first : (c : ℕ) (cs : List ℕ) → is_ascii_digit c ≡ true
    → either (maybe exponent) point_part (c ∷ cs) ≡ false
neither_first c cs h = rw (digit_no_e c h, digit_no_point c h) refl

pub digits_first_is : (b : ℕ) (bs : List ℕ)
    → longest (some_then is_ascii_digit (either (maybe exponent) point_part)) (b ∷ bs)
    ≡ more (cond (is_ascii_digit b)
    (Some (prefix_len is_ascii_digit bs + behind_len (drop (prefix_len is_ascii_digit bs) bs)))
    None)
digits_first_is b bs =
    of_byte is_ascii_digit (run_then is_ascii_digit (either (maybe exponent) point_part)) b bs
    ∙ ap (λ x. more (cond (is_ascii_digit b) x None))
    (of_run is_ascii_digit (either (maybe exponent) point_part) neither_first bs
    ∙ ap (plus (prefix_len is_ascii_digit bs))
    (behind_is (drop (prefix_len is_ascii_digit bs) bs)))

-- a point and digits at the front: their run, which is 0 where no digit follows
abbrev pub point_len : List ℕ → ℕ
point_len bs = cond (prefix_len is_ascii_digit bs == 0) 0
    (1 + (prefix_len is_ascii_digit bs + exponent_len (drop (prefix_len is_ascii_digit bs) bs)))

pub point_first_is : (b : ℕ) (bs : List ℕ)
    → longest (byte_then (is 46) (some_then is_ascii_digit (maybe exponent))) (b ∷ bs)
    ≡ cond (b == 46) (some_len (point_len bs)) None
point_first_is b [] =
    of_byte (is 46) (some_then is_ascii_digit (maybe exponent)) b [] ∙ at (b == 46)
  where
    at : (v : Bool) → more (cond v None None) ≡ cond v None None
    at true = refl
    at false = refl
point_first_is b (c ∷ cs) = of_byte (is 46) (some_then is_ascii_digit (maybe exponent)) b (c ∷ cs)
    ∙ ap (λ x. more (cond (b == 46) x None))
    (of_byte is_ascii_digit (run_then is_ascii_digit (maybe exponent)) c cs
    ∙ ap (λ x. more (cond (is_ascii_digit c) x None)) (digits_maybe_is cs))
    ∙ at (b == 46) (is_ascii_digit c) (prefix_len is_ascii_digit cs)
  where
    at : (v w : Bool) (k : ℕ)
        → more (cond v (more (cond w (Some (k + exponent_len (drop k cs))) None)) None)
        ≡ cond v (some_len (cond (cond w (1 + k) 0 == 0) 0
        (1 + (cond w (1 + k) 0 + exponent_len (drop (cond w (1 + k) 0) (c ∷ cs)))))) None
    at true true k =
        let one : 1 + k ≡ suc k = omega arith in
        let e : 1 + (1 + (k + exponent_len (drop k cs)))
        ≡ suc (suc (k + exponent_len (drop k cs))) = omega arith in
        let f : 1 + (suc k + exponent_len (drop k cs)) ≡ suc (suc (k + exponent_len (drop k cs))) =
        omega arith in
        ap Some e ∙ sym (rw (one, not_zero k, f) refl)
    at true false k = refl
    at false w k = refl

from_digit : (b : ℕ) (bs : List ℕ) → is_ascii_digit b ≡ true
    → decimal_len (b ∷ bs)
    ≡ suc (prefix_len is_ascii_digit bs + behind_len (drop (prefix_len is_ascii_digit bs) bs))
unfolding decimal_len parts_len
from_digit b bs h =
    let one : 1 + prefix_len is_ascii_digit bs ≡ suc (prefix_len is_ascii_digit bs) = omega arith in
    rw (h, one, not_zero (prefix_len is_ascii_digit bs))
    (at (begins 46 (drop (prefix_len is_ascii_digit bs) bs)) (prefix_len is_ascii_digit bs)
    (prefix_len is_ascii_digit (drop 1 (drop (prefix_len is_ascii_digit bs) bs))))
  where
    at : (p : Bool) (k n : ℕ)
        → cond (cond p (suc k + (1 + n)) (suc k) == 0) 0
        (cond p (suc k + (1 + n)) (suc k) + exponent_len
        (drop (cond p (suc k + (1 + n)) (suc k)) (b ∷ bs)))
        ≡ suc (k + cond p (1 + (n + exponent_len (drop n (drop 1 (drop k bs)))))
        (exponent_len (drop k bs)))
    at true k n =
        let j : suc k + (1 + n) ≡ suc (k + (1 + n)) = omega arith in
        let d : drop n (drop 1 (drop k bs)) ≡ drop (k + (1 + n)) bs =
        drop-drop n 1 (drop k bs) ∙ drop-drop (1 + n) k bs in
        rw (j, not_zero (k + (1 + n)), d) (omega arith)
    at false k n = rw (not_zero k) (omega arith)

from_point : (b : ℕ) (bs : List ℕ) → is_ascii_digit b ≡ false → (b == 46) ≡ true
    → decimal_len (b ∷ bs) ≡ point_len bs
unfolding decimal_len parts_len
from_point b bs h i = rw (h, i) (at (prefix_len is_ascii_digit bs))
  where
    at : (n : ℕ) → cond (cond (n == 0) 0 (0 + (1 + n)) == 0) 0
        (cond (n == 0) 0 (0 + (1 + n)) + exponent_len
        (drop (cond (n == 0) 0 (0 + (1 + n))) (b ∷ bs)))
        ≡ cond (n == 0) 0 (1 + (n + exponent_len (drop n bs)))
    at zero = refl
    at (suc m) = let e : 0 + (1 + suc m) ≡ suc (suc m) = omega arith in
        rw (not_zero m, e, not_zero (suc m)) (omega arith)

from_other : (b : ℕ) (bs : List ℕ) → is_ascii_digit b ≡ false → (b == 46) ≡ false
    → decimal_len (b ∷ bs) ≡ 0
unfolding decimal_len parts_len
from_other b bs h i = rw (h, i) refl

decimal_at : (b : ℕ) (bs : List ℕ) (v : Bool) → is_ascii_digit b ≡ v → (w : Bool) → (b == 46) ≡ w
    → most (more (cond v
    (Some (prefix_len is_ascii_digit bs + behind_len (drop (prefix_len is_ascii_digit bs) bs)))
    None)) (cond w (some_len (point_len bs)) None) ≡ some_len (decimal_len (b ∷ bs))
decimal_at b bs true h true i = absurd (cc (digit_no_point b h, i))
decimal_at b bs true h false i =
    let e : 1 + (prefix_len is_ascii_digit bs + behind_len (drop (prefix_len is_ascii_digit bs) bs))
    ≡ suc (prefix_len is_ascii_digit bs + behind_len (drop (prefix_len is_ascii_digit bs) bs)) =
    omega arith in ap Some e ∙ sym (ap some_len (from_digit b bs h))
decimal_at b bs false h true i = sym (ap some_len (from_point b bs h i))
decimal_at b bs false h false i = sym (ap some_len (from_other b bs h i))

pub decimal_is : (bs : List ℕ) → longest decimal bs ≡ some_len (decimal_len bs)
unfolding decimal_len parts_len
decimal_is [] = refl
decimal_is (b ∷ bs) =
    of_either (some_then is_ascii_digit (either (maybe exponent) point_part))
    (byte_then (is 46) (some_then is_ascii_digit (maybe exponent))) (b ∷ bs)
    ∙ rw (digits_first_is b bs, point_first_is b bs)
    (decimal_at b bs (is_ascii_digit b) refl (b == 46) refl)

-- behind the `0` of a hexadecimal number the decimal forms end
zero_first : (a b : ℕ) → (a == 48 && (b == 120 || b == 88)) ≡ true → is_ascii_digit a ≡ true
zero_first a b h = grind arith

letter_no_digit : (a b : ℕ) → (a == 48 && (b == 120 || b == 88)) ≡ true → is_ascii_digit b ≡ false
letter_no_digit a b h = grind arith

letter_no_point : (a b : ℕ) → (a == 48 && (b == 120 || b == 88)) ≡ true → (b == 46) ≡ false
letter_no_point a b h = grind arith

letter_no_e : (a b : ℕ) → (a == 48 && (b == 120 || b == 88)) ≡ true → (b == 101 || b == 69) ≡ false
letter_no_e a b h = grind arith

only_zero : (a b : ℕ) (bs : List ℕ) → (a == 48 && (b == 120 || b == 88)) ≡ true
    → decimal_len (a ∷ b ∷ bs) ≡ 1
unfolding exponent_len
only_zero a b bs h =
    from_digit a (b ∷ bs) (zero_first a b h)
    ∙ rw (letter_no_digit a b h, letter_no_point a b h, letter_no_e a b h) refl

shorter : (bs : List ℕ) → 0 < hex_len bs → decimal_len bs ≤ hex_len bs
unfolding hex_len
shorter [] h = absurd (omega arith)
shorter (a ∷ []) h = absurd (omega arith)
shorter (a ∷ b ∷ bs) h = at (a == 48 && (b == 120 || b == 88)) refl h
  where
    at : (v : Bool) → (a == 48 && (b == 120 || b == 88)) ≡ v
        → 0 < cond v (cond (prefix_len is_ascii_hexdigit bs == 0) 0
        (2 + prefix_len is_ascii_hexdigit bs)) 0
        → decimal_len (a ∷ b ∷ bs)
        ≤ cond v (cond (prefix_len is_ascii_hexdigit bs == 0) 0
        (2 + prefix_len is_ascii_hexdigit bs)) 0
    at true is p = let one = only_zero a b bs is in omega arith
    at false is p = absurd (omega arith)

pick : (h d : ℕ) → (0 < h → d ≤ h) → most (some_len h) (some_len d) ≡ some_len (cond (h == 0) d h)
pick zero d p = refl
pick (suc h) zero p = rw (not_zero h) refl
pick (suc h) (suc d) p = let le : suc d ≤ suc h = p (omega arith) in
    rw (not_zero h) (ap Some (omega arith))

-- the run of a number is the longest front that has one of its forms
pub number_is : (bs : List ℕ) → longest number bs ≡ some_len (number_len bs)
unfolding number_len
number_is bs = of_either hexadecimal decimal bs
    ∙ rw (hex_is bs, decimal_is bs) (pick (hex_len bs) (decimal_len bs) (shorter bs))
