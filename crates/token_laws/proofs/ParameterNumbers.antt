-- Which parameters by number pass.
use Rattle.std.proofs.Common.{◌≡◌, ℕ, suc, ◌+◌, ◌==◌, ◌&&◌, ◌||◌, cond, Bool, true, false}
use Rattle.std.proofs.Common.{None, Some, List, [], ◌∷◌, take, refl, ap, sym, ◌∙◌, arith}
use Rattle.std.specs.Prelude.{nat_lt, nat_le}
use Rattle.std.specs.List.{prefix_len}
use Rattle.std.specs.Char.{is_ascii_digit}
use Rattle.std.specs.Str.{all_ascii_digits}
use Rattle.sql_meaning.specs.Numbers.{digits_behind, digits_up_to}
use Rattle.sql_tokens.specs.Pieces.{is_parameter_number, most_parameters}
use Rattle.token_laws.specs.Kinds.{passes_as_number}

-- a run of digits holds digits alone
all_digits :
    (bs : List ℕ) → all_ascii_digits (take (prefix_len is_ascii_digit bs) bs) ≡ true
all_digits [] = refl
all_digits (b ∷ bs) = at (is_ascii_digit b) refl (all_digits bs)
  where
    k : ℕ
    k = prefix_len is_ascii_digit bs

    at :
        (v : Bool)
        → is_ascii_digit b ≡ v
        → all_ascii_digits (take k bs) ≡ true
        → all_ascii_digits (take (cond v (1 + k) 0) (b ∷ bs)) ≡ true
    at true is later =
        let one : 1 + k ≡ suc k = omega arith in
        ap (λ n. all_ascii_digits (take n (b ∷ bs))) one ∙ rw is later
    at false is later = refl

number_of_digits :
    (d : ℕ) (ds : List ℕ)
    → all_ascii_digits (d ∷ ds) ≡ true
    → passes_as_number (d ∷ ds) ≡ is_parameter_number (digits_up_to most_parameters (d ∷ ds))
number_of_digits d ds all = rw all (at (nat_le (digits_behind 0 (d ∷ ds)) most_parameters))
  where
    n : ℕ
    n = digits_behind 0 (d ∷ ds)

    at :
        (v : Bool) → (nat_lt 0 n && v) ≡ is_parameter_number (cond v (Some n) None)
    at true = last (nat_lt 0 n)
      where
        last : (w : Bool) → (w && true) ≡ w
        last true = refl
        last false = refl
    at false = last (nat_lt 0 n)
      where
        last : (w : Bool) → (w && false) ≡ false
        last true = refl
        last false = refl

pub number_passes :
    (bs : List ℕ)
    → passes_as_number (take (prefix_len is_ascii_digit bs) bs)
    ≡ (prefix_len is_ascii_digit bs == 0
    || is_parameter_number (digits_up_to most_parameters (take (prefix_len is_ascii_digit bs) bs)))
number_passes [] = refl
number_passes (b ∷ bs) = at (is_ascii_digit b) refl (all_digits (b ∷ bs))
  where
    k : ℕ
    k = prefix_len is_ascii_digit bs

    at :
        (v : Bool)
        → is_ascii_digit b ≡ v
        → all_ascii_digits (take (cond v (1 + k) 0) (b ∷ bs)) ≡ true
        → passes_as_number (take (cond v (1 + k) 0) (b ∷ bs))
        ≡ (cond v (1 + k) 0 == 0
        || is_parameter_number (digits_up_to most_parameters (take (cond v (1 + k) 0) (b ∷ bs))))
    at false is all = refl
    at true is all =
        let one : 1 + k ≡ suc k = omega arith in
        let some : (1 + k == 0) ≡ false = grind arith in
        let all_of : all_ascii_digits (b ∷ take k bs) ≡ true = rw one at all in
        ap (λ n. passes_as_number (take n (b ∷ bs))) one
        ∙ number_of_digits b (take k bs) all_of
        ∙ ap (λ n. is_parameter_number (digits_up_to most_parameters (take n (b ∷ bs)))) (sym one)
        ∙ ap
        (λ v. v || is_parameter_number (digits_up_to most_parameters (take (1 + k) (b ∷ bs))))
        (sym some)
