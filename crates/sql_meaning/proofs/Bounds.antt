-- Conversion keeps the bounds of values.
use Rattle.std.proofs.Common.{◌≡◌, ℕ, suc, ◌/◌, ◌%◌, ◌^◌, ◌<◌, ℤ, pos, negsuc}
use Rattle.std.proofs.Common.{◌*ℤ◌, unsigned_abs, int_div, int_rem, Bool, true, false}
use Rattle.std.proofs.Common.{◌==◌, nat_lt, if◌then◌else◌, List, [], ◌∷◌, ◌++◌, Option, Some, None}
use Rattle.std.proofs.Common.{refl, arith, decimal}
use Rattle.std.specs.Char.{is_ascii_digit}
use Rattle.std.specs.Fmt.{signed_decimal, sign_text}
use Rattle.std.specs.Int.{is_negative}
use Rattle.std.specs.Str.{all_ascii_digits}
use Rattle.std.proofs.lemmas.Bool.{ltb-true}
use Rattle.std.proofs.lemmas.Int.{unsigned_abs-mul}
use Rattle.sql_meaning.specs.Values.{Value, Null, Int, Dec, Text, Blob, Affinity, Integer, Real}
use Rattle.sql_meaning.specs.Values.{Numeric, TextAffinity, BlobAffinity, IsI64, IsBytes, IsValue}
use Rattle.sql_meaning.specs.Numbers.{read_number, dec_text, fraction_text}
use Rattle.sql_meaning.specs.Conversions.{with_text_read, narrowed, widened, written, converted}
use Rattle.sql_meaning.proofs.Reading.{sound, read_is_value, of_decimal, of_fraction, signed_size}
use Rattle.list_laws.proofs.Bools.{and_left, and_right}

bytes-append : (xs ys : List ℕ) → IsBytes xs → IsBytes ys → IsBytes (xs ++ ys)
bytes-append [] ys h k = k
bytes-append (x ∷ xs) ys h k = (h.0, bytes-append xs ys h.1 k)

digit_below : (c : ℕ) → is_ascii_digit c ≡ true → c < 256
digit_below c h = grind arith

digits_are_bytes : (digits : List ℕ) → all_ascii_digits digits ≡ true → IsBytes digits
digits_are_bytes [] h = tt
digits_are_bytes (c ∷ cs) h = (
  digit_below c (and_left (is_ascii_digit c) _ h),
  digits_are_bytes cs
      (and_right (is_ascii_digit c) _ h),
)

decimal_bytes : (n : ℕ) → n < 2 ^ 64 → IsBytes (decimal n)
decimal_bytes n h = digits_are_bytes (decimal n) (of_decimal n h).all

int_bytes : (n : ℤ) → IsI64 n → IsBytes (signed_decimal n)
int_bytes (pos n) h = decimal_bytes n (omega (arith, h))
int_bytes (negsuc n) h = (omega arith, decimal_bytes (suc n) (omega (arith, h)))

sign_bytes : (negative : Bool) → IsBytes (sign_text negative)
sign_bytes true = (omega arith, tt)
sign_bytes false = tt

dec_bytes : (u : ℤ) → unsigned_abs u < 10 ^ 15 → IsBytes (dec_text u)
dec_bytes u h =
    let size : ℕ = unsigned_abs u in
    let fraction = digits_are_bytes (fraction_text (size % 10000))
    (of_fraction (size % 10000) (omega arith)).digits.all in
    bytes-append (sign_text (is_negative u)) _ (sign_bytes (is_negative u))
    (bytes-append (decimal (size / 10000)) _ (decimal_bytes (size / 10000) (omega (arith, h)))
    (omega arith, fraction))

within_i64 : (z : ℤ) → unsigned_abs z < 2 ^ 63 → IsI64 z
within_i64 (pos n) h = h
within_i64 (negsuc n) h = omega (arith, h)

smaller_part : (u : ℤ) → unsigned_abs (int_div u (pos 10000)) ≡ unsigned_abs u / 10000
smaller_part (pos n) = refl
smaller_part (negsuc n) = signed_size true (suc n / 10000)

read_case : (text : List ℕ) (o : Option Value) → read_number text ≡ o → IsBytes text
    → IsValue (with_text_read (Text text))
read_case text None e h = rw e h
read_case text (Some v) e h = rw e (read_is_value text v (sound text v e))

text_read_is_value : (v : Value) → IsValue v → IsValue (with_text_read v)
text_read_is_value Null h = h
text_read_is_value (Int n) h = h
text_read_is_value (Dec u) h = h
text_read_is_value (Text t) h = read_case t (read_number t) refl h
text_read_is_value (Blob b) h = h

narrowed_case : (u : ℤ) (b : Bool) → unsigned_abs u < 10 ^ 15
    → IsValue (if b then Int (int_div u (pos 10000)) else Dec u)
narrowed_case u true h =
    let part = smaller_part u in within_i64 (int_div u (pos 10000)) (omega (arith, part, h))
narrowed_case u false h = h

narrowed_is_value : (v : Value) → IsValue v → IsValue (narrowed v)
narrowed_is_value Null h = h
narrowed_is_value (Int n) h = h
narrowed_is_value (Dec u) h = narrowed_case u (unsigned_abs (int_rem u (pos 10000)) == 0) h
narrowed_is_value (Text t) h = h
narrowed_is_value (Blob b) h = h

widened_case : (n : ℤ) (b : Bool) → nat_lt (unsigned_abs n) (10 ^ 11) ≡ b → IsI64 n
    → IsValue (if b then Dec (n *ℤ pos 10000) else Int n)
widened_case n true e h =
    let size = unsigned_abs-mul n (pos 10000) in
    let below = ltb-true _ _ e in
    omega (arith, size, below)
widened_case n false e h = h

widened_is_value : (v : Value) → IsValue v → IsValue (widened v)
widened_is_value Null h = h
widened_is_value (Int n) h = widened_case n (nat_lt (unsigned_abs n) (10 ^ 11)) refl h
widened_is_value (Dec u) h = h
widened_is_value (Text t) h = h
widened_is_value (Blob b) h = h

written_is_value : (v : Value) → IsValue v → IsValue (written v)
written_is_value Null h = h
written_is_value (Int n) h = int_bytes n h
written_is_value (Dec u) h = dec_bytes u h
written_is_value (Text t) h = h
written_is_value (Blob b) h = h

pub converted_is_value : (aff : Affinity) (v : Value) → IsValue v → IsValue (converted aff v)
converted_is_value Integer v h = narrowed_is_value (with_text_read v) (text_read_is_value v h)
converted_is_value Numeric v h = narrowed_is_value (with_text_read v) (text_read_is_value v h)
converted_is_value Real v h = widened_is_value (with_text_read v) (text_read_is_value v h)
converted_is_value TextAffinity v h = written_is_value v h
converted_is_value BlobAffinity v h = h
