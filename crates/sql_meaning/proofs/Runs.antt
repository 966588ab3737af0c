-- A text is true exactly where a run at its start has a digit that isn't 0.
use Rattle.std.proofs.Common.{◌≡◌, ℕ, zero, suc, Bool, true, false, ◌||◌, ◌==◌, ◌↔◌}
use Rattle.std.proofs.Common.{List, [], ◌∷◌, ◌++◌, replicate, refl, ap, sym, ◌∙◌}
use Rattle.std.proofs.Common.{subst, arith, append_assoc}
use Rattle.std.specs.Char.{is_ascii_digit}
use Rattle.std.specs.List.{list_any}
use Rattle.std.specs.Str.{all_ascii_digits}
use Rattle.std.proofs.lemmas.List.Folds.{list_any-append}
use Rattle.std.proofs.Math.Bool.{or-true}
use Rattle.sql_meaning.specs.Values.{without_leading}
use Rattle.sql_meaning.specs.Numbers.{Sign, bare, plus, minus}
use Rattle.sql_meaning.specs.Truth.{without_sign, front_digits, without_digits, digits_behind_point}
use Rattle.sql_meaning.specs.Truth.{number_digits, is_nonzero, Point, missing, there, NumberRun}
use Rattle.sql_meaning.specs.Truth.{run_of, HasNonzeroRun, is_true_text}
use Rattle.list_laws.proofs.Bools.{and_left, and_right}

-- lists of which some part has a digit that isn't 0
any_left : (xs ys : List ℕ) → list_any is_nonzero xs ≡ true → list_any is_nonzero (xs ++ ys) ≡ true
any_left xs ys h = list_any-append is_nonzero xs ys ∙ ap (λ b. b || list_any is_nonzero ys) h

any_right : (xs ys : List ℕ) → list_any is_nonzero ys ≡ true → list_any is_nonzero (xs ++ ys) ≡ true
any_right xs ys h =
    list_any-append is_nonzero xs ys ∙ ap (λ b. list_any is_nonzero xs || b) h
    ∙ or-true (list_any is_nonzero xs)

any_behind : (xs ys : List ℕ) → list_any is_nonzero xs ≡ false
    → list_any is_nonzero (xs ++ ys) ≡ true → list_any is_nonzero ys ≡ true
any_behind xs ys h e =
    ap (λ b. b || list_any is_nonzero ys) (sym h) ∙ sym (list_any-append is_nonzero xs ys) ∙ e

-- the parts of a text
spaces_before : (text : List ℕ) → (n : ℕ) × (text ≡ replicate n 32 ++ without_leading 32 text)
spaces_before [] = (0, refl)
spaces_before (b ∷ bs) = by_space (b == 32) b bs refl (spaces_before bs)
  where
    by_space : (s : Bool) (b : ℕ) (bs : List ℕ) → (b == 32) ≡ s
        → (n : ℕ) × (bs ≡ replicate n 32 ++ without_leading 32 bs)
        → (n : ℕ) × (b ∷ bs ≡ replicate n 32 ++ without_leading 32 (b ∷ bs))
    by_space true b bs e h =
        let is : b ≡ 32 = grind arith in
        (suc h.0, rw e (ap (λ (x : ℕ). x ∷ bs) is ∙ ap (λ (l : List ℕ). 32 ∷ l) h.1))
    by_space false b bs e h = (0, rw e refl)

record Signed (text : List ℕ) : Type 0 where
  sign : List ℕ
  negative : Bool
  is_sign : Sign sign negative
  split : text ≡ sign ++ without_sign text

sign_before : (text : List ℕ) → Signed text
sign_before [] = record { sign = []; negative = false; is_sign = bare; split = refl }
sign_before (b ∷ bs) = by_sign (b == 43) (b == 45) b bs refl refl
  where
    by_sign : (p m : Bool) (b : ℕ) (bs : List ℕ) → (b == 43) ≡ p → (b == 45) ≡ m → Signed (b ∷ bs)
    by_sign true m b bs e f =
        let is : b ≡ 43 = grind arith in
        record {
          sign = 43 ∷ [];
          negative = false;
          is_sign = plus;
          split = rw e (ap (λ (x : ℕ). x ∷ bs) is);
        }
    by_sign false true b bs e f =
        let is : b ≡ 45 = grind arith in
        record {
          sign = 45 ∷ [];
          negative = true;
          is_sign = minus;
          split = rw (e, f) (ap (λ (x : ℕ). x ∷ bs) is);
        }
    by_sign false false b bs e f =
        record { sign = []; negative = false; is_sign = bare; split = rw (e, f) refl }

digits_before : (text : List ℕ) → (all_ascii_digits (front_digits text) ≡ true)
    × (text ≡ front_digits text ++ without_digits text)
digits_before [] = (refl, refl)
digits_before (b ∷ bs) = by_digit (is_ascii_digit b) b bs refl (digits_before bs)
  where
    by_digit : (d : Bool) (b : ℕ) (bs : List ℕ) → is_ascii_digit b ≡ d
        → (all_ascii_digits (front_digits bs) ≡ true) × (bs ≡ front_digits bs ++ without_digits bs)
        → (all_ascii_digits (front_digits (b ∷ bs)) ≡ true)
        × (b ∷ bs ≡ front_digits (b ∷ bs) ++ without_digits (b ∷ bs))
    by_digit true b bs e h = (rw e (rw e h.0), rw e (ap (λ (l : List ℕ). b ∷ l) h.1))
    by_digit false b bs e h = (rw e refl, rw e refl)

record Pointed (text : List ℕ) : Type 0 where
  point : List ℕ
  fraction : List ℕ
  rest : List ℕ
  is_point : Point point
  digits : all_ascii_digits fraction ≡ true
  split : text ≡ point ++ (fraction ++ rest)
  same : digits_behind_point text ≡ fraction

point_before : (text : List ℕ) → Pointed text
point_before [] =
    record {
      point = [];
      fraction = [];
      rest = [];
      is_point = missing;
      digits = refl;
      split = refl;
      same = refl;
    }
point_before (b ∷ bs) = by_point (b == 46) b bs refl
  where
    by_point : (p : Bool) (b : ℕ) (bs : List ℕ) → (b == 46) ≡ p → Pointed (b ∷ bs)
    by_point true b bs e =
        let is : b ≡ 46 = grind arith in
        let digits = digits_before bs in
        record {
          point = 46 ∷ [];
          fraction = front_digits bs;
          rest = without_digits bs;
          is_point = there;
          digits = digits.0;
          split = ap (λ (x : ℕ). x ∷ bs) is ∙ ap (λ (l : List ℕ). 46 ∷ l) digits.1;
          same = rw e refl;
        }
    by_point false b bs e =
        record {
          point = [];
          fraction = [];
          rest = b ∷ bs;
          is_point = missing;
          digits = refl;
          split = refl;
          same = rw e refl;
        }

regrouped : (a b c d e f : List ℕ)
    → a ++ (b ++ (c ++ (d ++ (e ++ f)))) ≡ (a ++ (b ++ (c ++ (d ++ e)))) ++ f
regrouped a b c d e f = simp append_assoc refl

any_put_in : (b : Bool) (xs p ys : List ℕ) → list_any is_nonzero xs ≡ b
    → list_any is_nonzero (xs ++ ys) ≡ true
    → list_any is_nonzero (xs ++ (p ++ ys)) ≡ true
any_put_in true xs p ys e h = any_left xs (p ++ ys) e
any_put_in false xs p ys e h = any_right xs (p ++ ys) (any_right p ys (any_behind xs ys e h))

true_has_run : (text : List ℕ) → is_true_text text ≡ true → HasNonzeroRun text
true_has_run text e =
    let spaces = spaces_before text in
    let signs = sign_before (without_leading 32 text) in
    let number : List ℕ = without_sign (without_leading 32 text) in
    let digits = digits_before number in
    let point = point_before (without_digits number) in
    let whole : List ℕ = front_digits number in
    let found : list_any is_nonzero (whole ++ point.fraction) ≡ true =
    subst (λ (l : List ℕ). list_any is_nonzero (whole ++ l) ≡ true) point.same e in
    record {
      run = replicate spaces.0 32 ++ (signs.sign ++ (whole ++ (point.point ++ point.fraction)));
      rest = point.rest;
      split =
          spaces.1
          ∙ ap (λ (l : List ℕ). replicate spaces.0 32 ++ l)
          (signs.split
          ∙ ap (λ (l : List ℕ). signs.sign ++ l) (digits.1
          ∙ ap (λ (l : List ℕ). whole ++ l) point.split))
          ∙ regrouped (replicate spaces.0 32) signs.sign whole point.point point.fraction
          point.rest;
      is_run = run_of spaces.0 whole point.fraction signs.is_sign digits.0 point.is_point
          point.digits refl;
      nonzero =
          any_right (replicate spaces.0 32) _
          (any_right signs.sign _ (any_put_in (list_any is_nonzero whole)
          whole point.point point.fraction refl found));
    }

-- what a run with a digit that isn't 0 does at the start of a text
no_spaces : (n : ℕ) → list_any is_nonzero (replicate n 32) ≡ false
no_spaces zero = refl
no_spaces (suc n) = no_spaces n

spaces_off : (n : ℕ) (text : List ℕ) → without_leading 32
    (replicate n 32 ++ text) ≡ without_leading 32 text
spaces_off zero text = refl
spaces_off (suc n) text = spaces_off n text

digit_first : (c : ℕ) (cs : List ℕ) → is_ascii_digit c ≡ true
    → without_sign (without_leading 32 (c ∷ cs)) ≡ c ∷ cs
digit_first c cs h =
    let space : (c == 32) ≡ false = grind arith in
    let plus : (c == 43) ≡ false = grind arith in
    let minus : (c == 45) ≡ false = grind arith in
    rw space (rw (plus, minus) refl)

-- a byte and what follows it: only what follows it changes
or_rest : (b x y : Bool) → (x ≡ true → y ≡ true) → (b || x) ≡ true → (b || y) ≡ true
or_rest true x y f h = refl
or_rest false x y f h = f h

fraction_counts : (fraction rest : List ℕ) → all_ascii_digits fraction ≡ true
    → list_any is_nonzero fraction ≡ true
    → list_any is_nonzero (front_digits (fraction ++ rest)) ≡ true
fraction_counts [] rest a h = absurd (cc)
fraction_counts (d ∷ ds) rest a h =
    let further = fraction_counts ds rest (and_right (is_ascii_digit d) _ a) in
    rw (and_left (is_ascii_digit d) _ a) (or_rest (is_nonzero d) _ _ further h)

number_counts : (digits point fraction rest : List ℕ) → all_ascii_digits digits ≡ true → Point point
    → all_ascii_digits fraction ≡ true
    → list_any is_nonzero (digits ++ (point ++ fraction)) ≡ true
    → list_any is_nonzero (number_digits ((digits ++ (point ++ fraction)) ++ rest)) ≡ true
number_counts [] _ fraction rest a missing f h =
    any_left (front_digits (fraction ++ rest)) _ (fraction_counts fraction rest f h)
number_counts [] _ fraction rest a there f h = fraction_counts fraction rest f h
number_counts (d ∷ ds) point fraction rest a p f h =
    let further = number_counts ds point fraction rest (and_right (is_ascii_digit d) _ a) p f in
    rw (and_left (is_ascii_digit d) _ a) (or_rest (is_nonzero d) _ _ further h)

number_first : (digits point fraction rest : List ℕ) → all_ascii_digits digits ≡ true → Point point
    → all_ascii_digits fraction ≡ true
    → list_any is_nonzero (digits ++ (point ++ fraction)) ≡ true
    → without_sign (without_leading 32 ((digits ++ (point ++ fraction)) ++ rest))
    ≡ (digits ++ (point ++ fraction)) ++ rest
number_first [] _ [] rest a missing f h = absurd (cc)
number_first [] _ (c ∷ cs) rest a missing f h =
    digit_first c (cs ++ rest) (and_left (is_ascii_digit c) _ f)
number_first [] _ fraction rest a there f h = refl
number_first (d ∷ ds) point fraction rest a p f h =
    digit_first d _ (and_left (is_ascii_digit d) _ a)

sign_off : (sign number rest : List ℕ) (negative : Bool) → Sign sign negative
    → without_sign (without_leading 32 (number ++ rest)) ≡ number ++ rest
    → without_sign (without_leading 32 ((sign ++ number) ++ rest)) ≡ number ++ rest
sign_off _ number rest _ bare h = h
sign_off _ number rest _ plus h = refl
sign_off _ number rest _ minus h = refl

no_digit_in_sign : (sign : List ℕ) (negative : Bool) → Sign sign negative
    → list_any is_nonzero sign ≡ false
no_digit_in_sign _ _ bare = refl
no_digit_in_sign _ _ plus = refl
no_digit_in_sign _ _ minus = refl

from_run : (text run rest : List ℕ) → text ≡ run ++ rest → NumberRun run
    → list_any is_nonzero run ≡ true → is_true_text text ≡ true
from_run text run rest e (run_of {sign} {point} {negative} n digits fraction s d p f g) h =
    let number : List ℕ = digits ++ (point ++ fraction) in
    let nonzero : list_any is_nonzero number ≡ true =
    any_behind sign number (no_digit_in_sign sign negative s)
    (any_behind (replicate n 32) (sign ++ number) (no_spaces n) (ap (list_any is_nonzero) (sym g)
    ∙ h)) in
    let split : text ≡ replicate n 32 ++ ((sign ++ number) ++ rest) =
    e ∙ ap (λ (l : List ℕ). l ++ rest) g ∙ append_assoc (replicate n 32) (sign ++ number) rest in
    let start : without_sign (without_leading 32 text) ≡ number ++ rest =
    ap (λ (l : List ℕ). without_sign (without_leading 32 l)) split
    ∙ ap without_sign (spaces_off n ((sign ++ number) ++ rest))
    ∙ sign_off sign number rest negative s (number_first digits point fraction rest d p f nonzero)
    in
    ap (λ (l : List ℕ). list_any is_nonzero (number_digits l)) start
    ∙ number_counts digits point fraction rest d p f nonzero

pub true_by_run : (text : List ℕ) → (is_true_text text ≡ true) ↔ HasNonzeroRun text
true_by_run text = (true_has_run text, λ h. from_run text h.run h.rest h.split h.is_run h.nonzero)
