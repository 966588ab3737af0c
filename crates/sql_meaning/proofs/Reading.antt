-- What reads as a number has the parts of a number, and the text of a number reads back.
use Rattle.std.proofs.Common.{◌≡◌, ℕ, zero, suc, ◌+◌, ◌-◌, ◌*◌, ◌/◌, ◌%◌, ◌^◌, ◌≤◌, ◌<◌, Bool, true}
use Rattle.std.proofs.Common.{false, not, ◌&&◌, ◌==◌, nat_le, nat_lt, cond, List, [], ◌∷◌, ◌++◌}
use Rattle.std.proofs.Common.{length, take, drop, position, Option, None, Some, ℤ, pos, negsuc}
use Rattle.std.proofs.Common.{refl, ap, sym, ◌∙◌, arith, rules, subst, if◌then◌else◌, decimal}
use Rattle.std.proofs.Common.{option_map, option_and_then, unsigned_abs}
use Rattle.std.specs.Str.{all_ascii_digits}
use Rattle.std.specs.Char.{is_ascii_digit}
use Rattle.std.specs.Fmt.{signed_decimal}
use Rattle.std.specs.Int.{is_negative}
use Rattle.std.proofs.lemmas.Int.{ints}
use Rattle.std.specs.List.{position_or_len}
use Rattle.std.proofs.lemmas.Str.Parse.{IsNumeralModel, numerals_by_fold, digits_value_short}
use Rattle.std.proofs.lemmas.List.{length-append, take_at, append-nil}
use Rattle.std.proofs.lemmas.Fmt.{digits_decimal, digits_value-decimal, decimal_nonempty}
use Rattle.list_laws.proofs.Bools.{and_left, and_right}
use Rattle.sql_meaning.specs.Values.{Value, IsValue, Int, Dec, IsI64}
use Rattle.sql_meaning.specs.Numbers.{Digits, Sign, bare, plus, minus, ReadsAs, whole, pointed}
use Rattle.sql_meaning.specs.Numbers.{digits_behind, digits_up_to, signed, last_digit_units}
use Rattle.sql_meaning.specs.Numbers.{read_whole, is_point, read_around, read_unsigned, read_number}
use Rattle.sql_meaning.specs.Numbers.{fraction_text, dec_text}

pub own : IsNumeralModel (λ ds. all_ascii_digits ds ≡ true) (digits_behind 0)
own = numerals_by_fold _ (search rules) digits_behind (search rules)

pub of_decimal : (n : ℕ) → n < 2 ^ 64 → Digits (decimal n) n
of_decimal n h = record {
  some = decimal_nonempty n h;
  all = digits_decimal own n h;
  value = digits_value-decimal own n h;
}

chosen : (b : Bool) (n most : ℕ) → b ≡ true → n ≤ most
    → (if b && nat_le n most then Some n else None) ≡ Some n
chosen b n most e h = grind arith

pub upto_is : (most n : ℕ) (ds : List ℕ) → Digits ds n → n ≤ most → digits_up_to most ds ≡ Some n
upto_is most n [] d h = absurd (omega (arith, d.some))
upto_is most n (c ∷ cs) d h =
    chosen (all_ascii_digits (c ∷ cs)) (digits_behind 0 (c ∷ cs)) most d.all (rw d.value h)
    ∙ ap Some d.value

not_point : (c : ℕ) → is_ascii_digit c ≡ true → is_point c ≡ false
not_point c h = grind arith

not_plus : (c : ℕ) → is_ascii_digit c ≡ true → (c == 43) ≡ false
not_plus c h = grind arith

not_minus : (c : ℕ) → is_ascii_digit c ≡ true → (c == 45) ≡ false
not_minus c h = grind arith

-- where the first point stands behind digits
pub place_of_point : (ds fs : List ℕ) → all_ascii_digits ds ≡ true
    → position_or_len is_point (ds ++ fs) ≡ length ds + position_or_len is_point fs
place_of_point [] fs h = sym (omega arith)
place_of_point (c ∷ cs) fs h =
    rw (
      not_point c (and_left (is_ascii_digit c) _ h),
      place_of_point cs fs
          (and_right (is_ascii_digit c) _ h),
    ) (omega arith)

place_or_none : (n m : ℕ) → n ≡ m → cond (nat_lt n m) (Some n) None ≡ None
place_or_none n m e = grind arith

place_there : (n m k : ℕ) → n ≡ k → k < m → cond (nat_lt n m) (Some n) None ≡ Some k
place_there n m k e h = grind arith

ends : (ds : List ℕ) → all_ascii_digits ds ≡ true → position_or_len is_point ds ≡ length ds
ends [] h = refl
ends (c ∷ cs) h =
    rw (not_point c (and_left (is_ascii_digit c) _ h), ends cs (and_right (is_ascii_digit c) _ h))
    (omega arith)

pub no_point : (ds : List ℕ) → all_ascii_digits ds ≡ true → position is_point ds ≡ None
no_point ds h = place_or_none _ _ (ends ds h)

pub at_point : (ds fs : List ℕ) → all_ascii_digits ds ≡ true
    → position is_point (ds ++ 46 ∷ fs) ≡ Some (length ds)
at_point ds fs h =
    place_there _ _ (length ds) (place_of_point ds (46 ∷ fs) h ∙ omega arith)
    (rw (length-append ds (46 ∷ fs)) (omega arith))

pub plain : (ds fs : List ℕ) → 0 < length ds → all_ascii_digits ds ≡ true
    → read_number (ds ++ fs) ≡ read_unsigned false (ds ++ fs)
plain [] fs s h = absurd (omega (arith, s))
plain (c ∷ cs) fs s h =
    rw (not_plus c (and_left (is_ascii_digit c) _ h), not_minus c (and_left (is_ascii_digit c) _ h))
    refl

pub record Fraction (fs : List ℕ) (f : ℕ) : Type 0 where
  pub number : ℕ
  pub digits : Digits fs number
  pub long : length fs ≤ 4
  pub units : number * last_digit_units (length fs) ≡ f
  pub small : number ≤ 9999

digit_ok : (d : ℕ) → d < 10 → is_ascii_digit (48 + d) ≡ true
digit_ok d h = grind arith

one : (a : ℕ) → a < 10 → Digits ((48 + a) ∷ []) a
one a h = record { some = omega arith; all = rw (digit_ok a h) refl; value = omega arith }

two : (a b : ℕ) → a < 10 → b < 10 → Digits ((48 + a) ∷ (48 + b) ∷ []) (10 * a + b)
two a b h i = record {
  some = omega arith;
  all = rw (digit_ok a h, digit_ok b i) refl;
  value = omega arith;
}

three : (a b c : ℕ) → a < 10 → b < 10 → c < 10
    → Digits ((48 + a) ∷ (48 + b) ∷ (48 + c) ∷ []) (100 * a + 10 * b + c)
three a b c h i j = record {
  some = omega arith;
  all = rw (digit_ok a h, digit_ok b i, digit_ok c j) refl;
  value = omega arith;
}

four : (a b c d : ℕ) → a < 10 → b < 10 → c < 10 → d < 10
    → Digits ((48 + a) ∷ (48 + b) ∷ (48 + c) ∷ (48 + d) ∷ []) (1000 * a + 100 * b + 10 * c + d)
four a b c d h i j k = record {
  some = omega arith;
  all = rw (digit_ok a h, digit_ok b i, digit_ok c j, digit_ok d k) refl;
  value = omega arith;
}

no_digit : (n : ℕ) → (48 + n == 48) ≡ true → n ≡ 0
no_digit n h = grind arith

-- by whether each of the last three digits is 0, from the last on
fraction_is : (c b a : Bool) (f : ℕ) → f < 10000 → (48 + f % 10 == 48) ≡ c
    → (48 + f / 10 % 10 == 48) ≡ b → (48 + f / 100 % 10 == 48) ≡ a → Fraction (fraction_text f) f
fraction_is true true true f h k g e =
    let x = no_digit (f / 100 % 10) e in
    let y = no_digit (f / 10 % 10) g in
    let z = no_digit (f % 10) k in
    rw (k, g, e) (record {
      number = f / 1000;
      digits = one (f / 1000) (omega arith);
      long = omega arith;
      units = omega (arith, x, y, z);
      small = omega arith;
    })
fraction_is true true false f h k g e =
    let y = no_digit (f / 10 % 10) g in
    let z = no_digit (f % 10) k in
    rw (k, g, e) (record {
      number = 10 * (f / 1000) + f / 100 % 10;
      digits = two (f / 1000) (f / 100 % 10) (omega arith) (omega arith);
      long = omega arith;
      units = omega (arith, y, z);
      small = omega arith;
    })
fraction_is true false a f h k g e =
    let z = no_digit (f % 10) k in
    rw (k, g) (record {
      number = 100 * (f / 1000) + 10 * (f / 100 % 10) + f / 10 % 10;
      digits = three (f / 1000) (f / 100 % 10) (f / 10 % 10) (omega arith) (omega arith)
          (omega arith);
      long = omega arith;
      units = omega (arith, z);
      small = omega arith;
    })
fraction_is false b a f h k g e =
    rw k (record {
      number = 1000 * (f / 1000) + 100 * (f / 100 % 10) + 10 * (f / 10 % 10) + f % 10;
      digits = four (f / 1000) (f / 100 % 10) (f / 10 % 10) (f % 10) (omega arith) (omega arith)
          (omega arith) (omega arith);
      long = omega arith;
      units = omega arith;
      small = omega arith;
    })

pub of_fraction : (f : ℕ) → f < 10000 → Fraction (fraction_text f) f
of_fraction f h = fraction_is _ _ _ f h refl refl refl

start : (c : ℕ) (cs : List ℕ) → is_ascii_digit c ≡ true
    → read_number (c ∷ cs) ≡ read_unsigned false (c ∷ cs)
start c cs h = rw (not_plus c h, not_minus c h) refl

bare_read : (ds : List ℕ) → 0 < length ds → all_ascii_digits ds ≡ true
    → read_number ds ≡ read_unsigned false ds
bare_read [] s h = absurd (omega (arith, s))
bare_read (c ∷ cs) s h = start c cs (and_left (is_ascii_digit c) _ h)

whole_back : (ds : List ℕ) (n : ℕ) → Digits ds n → n < 2 ^ 63 → read_number ds ≡ Some (Int (pos n))
whole_back ds n d h =
    bare_read ds d.some d.all ∙ ap (read_around false ds) (no_point ds d.all)
    ∙ ap (option_map (λ k. Int (signed false k))) (upto_is (2 ^ 63 - 1) n ds d (omega (arith, h)))

minus_back : (ds : List ℕ) (n : ℕ) → Digits ds (suc n) → n < 2 ^ 63
    → read_number (45 ∷ ds) ≡ Some (Int (negsuc n))
minus_back ds n d h =
    ap (read_around true ds) (no_point ds d.all)
    ∙ ap (option_map (λ k. Int (signed true k))) (upto_is (2 ^ 63) (suc n) ds d (omega (arith, h)))

pub int_back : (z : ℤ) → IsI64 z → read_number (signed_decimal z) ≡ Some (Int z)
int_back (pos n) h = whole_back (decimal n) n (of_decimal n (omega (arith, h))) h
int_back (negsuc n) h = minus_back (decimal (suc n)) n (of_decimal (suc n) (omega (arith, h))) h

behind : (ds fs : List ℕ) → drop (length ds + 1) (ds ++ 46 ∷ fs) ≡ fs
behind [] fs = refl
behind (d ∷ ds) fs =
    let next : suc (length ds) + 1 ≡ suc (length ds + 1) = omega arith in rw next (behind ds fs)

within : (n : ℕ) (v : Option Value) → n ≤ 4 → (if nat_le n 4 then v else None) ≡ v
within n v h = grind arith

pointed_back : (neg : Bool) (ds fs : List ℕ) (w f : ℕ) → Digits ds w → w ≤ 99999999999
    → Fraction fs f → read_unsigned neg (ds ++ 46 ∷ fs) ≡ Some (Dec (signed neg (w * 10000 + f)))
pointed_back neg ds fs w f d h p =
    ap (read_around neg (ds ++ 46 ∷ fs)) (at_point ds fs d.all)
    ∙ rw (
      take_at ds (46 ∷ fs) (length ds) refl,
      behind ds fs,
      upto_is 99999999999 w ds d h,
      upto_is
          9999 p.number fs p.digits p.small,
      p.units,
    )
    (within (length fs) _ p.long)

not_negative : (n : ℕ) → is_negative (pos n) ≡ false
not_negative n = grind (arith, ints)

split : (m : ℕ) → m / 10000 * 10000 + m % 10000 ≡ m
split m = omega arith

unsigned_back : (neg : Bool) (m : ℕ) → m < 10 ^ 15
    → read_unsigned neg (decimal (m / 10000) ++ 46 ∷ fraction_text (m % 10000)) ≡ Some
    (Dec (signed neg m))
unsigned_back neg m h =
    pointed_back neg (decimal (m / 10000)) (fraction_text (m % 10000)) (m / 10000) (m % 10000)
    (of_decimal (m / 10000) (omega (arith, h))) (omega (arith, h))
    (of_fraction (m % 10000) (omega arith))
    ∙ ap (λ k. Some (Dec (signed neg k))) (split m)

pub dec_back : (u : ℤ) → unsigned_abs u < 10 ^ 15 → read_number (dec_text u) ≡ Some (Dec u)
dec_back (pos n) h =
    let d = of_decimal (n / 10000) (omega (arith, h)) in
    rw (not_negative n) (plain (decimal (n / 10000)) (46 ∷ fraction_text (n % 10000)) d.some d.all
    ∙ unsigned_back false n h)
dec_back (negsuc n) h = unsigned_back true (suc n) h

-- completeness: what has the parts is read_number
small_digits : (k : ℕ) (ds : List ℕ) (n : ℕ) → Digits ds n → length ds ≤ k → n < 10 ^ k
small_digits k ds n d h = rw (← d.value) (digits_value_short own ds k d.all h)

up_to : (neg : Bool) (n : ℕ) (ds : List ℕ) → Digits ds n → IsI64 (signed neg n)
    → read_unsigned neg ds ≡ Some (Int (signed neg n))
up_to false n ds d h =
    ap (read_around false ds) (no_point ds d.all)
    ∙ ap (option_map (λ k. Int (signed false k))) (upto_is (2 ^ 63 - 1) n ds d (omega (arith, h)))
up_to true zero ds d h =
    ap (read_around true ds) (no_point ds d.all)
    ∙ ap (option_map (λ k. Int (signed true k))) (upto_is (2 ^ 63) zero ds d (omega arith))
up_to true (suc n) ds d h =
    ap (read_around true ds) (no_point ds d.all)
    ∙ ap (option_map (λ k. Int (signed true k))) (upto_is (2 ^ 63) (suc n) ds d (omega (arith, h)))

signed_read : (sign rest : List ℕ) (neg : Bool) (ds : List ℕ) → Sign sign neg → 0 < length ds
    → all_ascii_digits ds ≡ true → read_number (sign ++ (ds ++ rest)) ≡ read_unsigned neg
    (ds ++ rest)
signed_read _ rest _ ds bare s a = plain ds rest s a
signed_read _ rest _ ds plus s a = refl
signed_read _ rest _ ds minus s a = refl

pub complete : (text : List ℕ) (v : Value) → ReadsAs text v → read_number text ≡ Some v
complete text _ (whole {sign} {digits} {negative} {n} s d i e) =
    ap read_number (e ∙ ap (λ (l : List ℕ). sign ++ l) (sym (append-nil digits)))
    ∙ signed_read sign [] negative digits s d.some d.all
    ∙ ap (read_unsigned negative) (append-nil digits) ∙ up_to negative n digits d i
complete text _ (pointed {sign} {digits} {fraction} {negative} {n} {f} s d p l h e) =
    ap read_number e ∙ signed_read sign (46 ∷ fraction) negative digits s d.some d.all
    ∙ pointed_back negative digits fraction n (f * last_digit_units (length fraction)) d
    (omega (arith, h)) (record {
      number = f;
      digits = p;
      long = l;
      units = refl;
      small = let k = small_digits 4 fraction f p l in omega (arith, k);
    })

same_number : (a b : ℕ) → (a == b) ≡ true → a ≡ b
same_number a b h = grind arith

-- soundness: what is read_number has the parts
chosen_parts : (b : Bool) (n most m : ℕ) → (if b && nat_le n most then Some n else None) ≡ Some m
    → (b ≡ true) × (n ≤ most) × (n ≡ m)
chosen_parts b n most m e = grind arith

pub upto_parts : (most n : ℕ) (ds : List ℕ) → digits_up_to most ds ≡ Some n
    → Digits ds n × (n ≤ most)
upto_parts most n [] e = absurd (cc)
upto_parts most n (c ∷ cs) e =
    let p = chosen_parts (all_ascii_digits (c ∷ cs)) (digits_behind 0 (c ∷ cs)) most n e in
    (record { some = omega arith; all = p.0; value = p.2 }, subst (λ (k : ℕ). k ≤ most) p.2 p.1)

signed_fits : (neg : Bool) (n : ℕ) → n ≤ (if neg then 2 ^ 63 else 2 ^ 63 - 1) → IsI64 (signed neg n)
signed_fits false n h = omega (arith, h)
signed_fits true zero h = omega arith
signed_fits true (suc n) h = omega (arith, h)

whole_at : (neg : Bool) (most : ℕ) (sign bs : List ℕ) (v : Value) → Sign sign neg
    → most ≡ (if neg then 2 ^ 63 else 2 ^ 63 - 1) → (o : Option ℕ) → digits_up_to most bs ≡ o
    → option_map (λ n. Int (signed neg n)) o ≡ Some v → ReadsAs (sign ++ bs) v
whole_at neg most sign bs v s m None e k = absurd (cc)
whole_at neg most sign bs v s m (Some n) e k =
    let p = upto_parts most n bs e in
    let is : Int (signed neg n) ≡ v = cc in
    subst (ReadsAs (sign ++ bs)) is (whole s p.0
    (signed_fits neg n (subst (λ (j : ℕ). n ≤ j) m p.1)) refl)

whole_parts : (neg : Bool) (sign bs : List ℕ) (v : Value) → Sign sign neg
    → read_whole neg bs ≡ Some v → ReadsAs (sign ++ bs) v
whole_parts true sign bs v s e =
    whole_at true (2 ^ 63) sign bs v s refl (digits_up_to (2 ^ 63) bs) refl e
whole_parts false sign bs v s e =
    whole_at false (2 ^ 63 - 1) sign bs v s refl (digits_up_to (2 ^ 63 - 1) bs) refl e

within_parts : (n : ℕ) (w v : Value) → (if nat_le n 4 then Some w else None) ≡ Some v
    → (n ≤ 4) × (w ≡ v)
within_parts n w v e = grind arith

pointed_at : (neg : Bool) (sign text ds fs : List ℕ) (v : Value) → Sign sign neg
    → text ≡ sign ++ (ds ++ 46 ∷ fs) → (o p : Option ℕ) → digits_up_to 99999999999 ds ≡ o
    → digits_up_to 9999 fs ≡ p
    → option_and_then (λ w. option_and_then (λ f. if nat_le (length fs) 4
    then Some (Dec (signed neg (w * 10000 + f * last_digit_units (length fs)))) else None) p)
    o ≡ Some v → ReadsAs text v
pointed_at neg sign text ds fs v s t None p e g k = absurd (cc)
pointed_at neg sign text ds fs v s t (Some w) None e g k = absurd (cc)
pointed_at neg sign text ds fs v s t (Some w) (Some f) e g k =
    let d = upto_parts 99999999999 w ds e in
    let q = upto_parts 9999 f fs g in
    let r = within_parts (length fs) _ v k in
    subst (ReadsAs text) r.1 (pointed s d.0 q.0 r.0 (omega (arith, d.1)) t)

place_parts : (n m i : ℕ) → cond (nat_lt n m) (Some n) None ≡ Some i → (n < m) × (n ≡ i)
place_parts n m i e = grind arith

point_is : (c : ℕ) → is_point c ≡ true → c ≡ 46
point_is c h = grind arith

cut_step : (b : Bool) (c : ℕ) (cs : List ℕ) → is_point c ≡ b
    → cond (not b) (1 + position_or_len is_point cs) 0 < length (c ∷ cs)
    → (position_or_len is_point cs < length cs
    → cs ≡ take (position_or_len is_point cs) cs ++ 46 ∷ drop (position_or_len is_point cs + 1)
    cs)
    → c ∷ cs ≡ take (cond (not b) (1 + position_or_len is_point cs) 0) (c ∷ cs) ++ 46 ∷ drop
    (cond (not b) (1 + position_or_len is_point cs) 0 + 1) (c ∷ cs)
cut_step true c cs e h ih = ap (λ (x : ℕ). x ∷ cs) (point_is c e)
cut_step false c cs e h ih =
    let n = position_or_len is_point cs in
    let up : 1 + n ≡ suc n = omega arith in
    let next : suc n + 1 ≡ suc (n + 1) = omega arith in
    rw (up, next) (ap (λ (l : List ℕ). c ∷ l) (ih (omega (arith, h))))

cut : (bs : List ℕ) → position_or_len is_point bs < length bs
    → bs ≡ take (position_or_len is_point bs) bs ++ 46 ∷ drop (position_or_len is_point bs + 1) bs
cut [] h = absurd (omega (arith, h))
cut (c ∷ cs) h = cut_step (is_point c) c cs refl h (cut cs)

unsigned_at_parts : (neg : Bool) (sign bs : List ℕ) (v : Value) → Sign sign neg → (o : Option ℕ)
    → position is_point bs ≡ o → read_around neg bs o ≡ Some v → ReadsAs (sign ++ bs) v
unsigned_at_parts neg sign bs v s None e k = whole_parts neg sign bs v s k
unsigned_at_parts neg sign bs v s (Some i) e k =
    let p = place_parts (position_or_len is_point bs) (length bs) i e in
    let split : bs ≡ take i bs ++ 46 ∷ drop (i + 1) bs =
    subst (λ (j : ℕ). bs ≡ take j bs ++ 46 ∷ drop (j + 1) bs) p.1 (cut bs p.0) in
    pointed_at neg sign (sign ++ bs) (take i bs) (drop (i + 1) bs) v s
    (ap (λ (l : List ℕ). sign ++ l) split) _ _ refl refl k

first_parts : (b e : Bool) (c : ℕ) (cs : List ℕ) (v : Value) → (c == 43) ≡ b → (c == 45) ≡ e
    → (if b then read_unsigned false cs else (if e then read_unsigned true cs
    else read_unsigned false (c ∷ cs))) ≡ Some v → ReadsAs (c ∷ cs) v
first_parts true e c cs v f g k =
    subst (λ (x : ℕ). ReadsAs (x ∷ cs) v) (sym (same_number c 43 f))
    (unsigned_at_parts false (43 ∷ []) cs v plus _ refl k)
first_parts false true c cs v f g k =
    subst (λ (x : ℕ). ReadsAs (x ∷ cs) v) (sym (same_number c 45 g))
    (unsigned_at_parts true (45 ∷ []) cs v minus _ refl k)
first_parts false false c cs v f g k = unsigned_at_parts false [] (c ∷ cs) v bare _ refl k

pub sound : (text : List ℕ) (v : Value) → read_number text ≡ Some v → ReadsAs text v
sound [] v k = absurd (cc)
sound (c ∷ cs) v k = first_parts (c == 43) (c == 45) c cs v refl refl k

some_same : (v w : Value) → Some v ≡ Some w → v ≡ w
some_same v w e = cc

pub one_number : (text : List ℕ) (v w : Value) → ReadsAs text v → ReadsAs text w → v ≡ w
one_number text v w r s = some_same v w (sym (complete text v r) ∙ complete text w s)

places_units : (k f : ℕ) → k ≤ 4 → f < 10 ^ k → f * last_digit_units k < 10000
places_units zero f h i = omega (arith, i)
places_units (suc zero) f h i = omega (arith, i)
places_units (suc (suc zero)) f h i = omega (arith, i)
places_units (suc (suc (suc zero))) f h i = omega (arith, i)
places_units (suc (suc (suc (suc zero)))) f h i = omega (arith, i)
places_units (suc (suc (suc (suc (suc k))))) f h i = absurd (omega (arith, h))

pub signed_size : (negative : Bool) (n : ℕ) → unsigned_abs (signed negative n) ≡ n
signed_size false n = refl
signed_size true zero = refl
signed_size true (suc n) = refl

pub read_is_value : (text : List ℕ) (v : Value) → ReadsAs text v → IsValue v
read_is_value text _ (whole s d i e) = i
read_is_value text _ (pointed {fraction} {negative} {n} {f} s d p l h e) =
    let below = places_units (length fraction) f l
    (small_digits (length fraction) fraction f p (omega arith)) in
    rw (signed_size negative (n * 10000 + f * last_digit_units (length fraction)))
    (omega (arith, h, below))
