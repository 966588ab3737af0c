-- Which texts read as numbers, and the texts of numbers (datatype3, 3).
-- Of bytes, 43 is a plus, 45 a minus, 46 a point, and 48 to 57 are the digits.
use Rattle.std.specs.Prelude.{◌≡◌, ℕ, ◌+◌, ◌-◌, ◌*◌, ◌/◌, ◌%◌, ◌^◌, ◌<◌, ◌≤◌, ℤ, pos, neg_ℤ}
use Rattle.std.specs.Prelude.{unsigned_abs, Bool, true, false, ◌&&◌, ◌==◌, nat_le, if◌then◌else◌}
use Rattle.std.specs.Prelude.{List, [], ◌∷◌, ◌++◌, length, take, drop, position, Option, Some, None}
use Rattle.std.specs.Prelude.{option_map, option_and_then, decimal}
use Rattle.std.specs.Fmt.{sign_text}
use Rattle.std.specs.Int.{is_negative}
use Rattle.std.specs.Str.{all_ascii_digits}
use Rattle.sql_meaning.specs.Values.{Value, Int, Dec, IsI64, without_trailing}

-- the number that digits write behind those of n
abbrev pub digits_behind : ℕ → List ℕ → ℕ
digits_behind n [] = n
digits_behind n (c ∷ cs) = digits_behind (10 * n + (c - 48)) cs

abbrev pub signed : Bool → ℕ → ℤ
signed true n = neg_ℤ (pos n)
signed false n = pos n

-- how many units of 1/10000 the last of so many digits behind the point stands for
abbrev pub last_digit_units : ℕ → ℕ
last_digit_units places = 10 ^ (4 - places)

-- one digit or more, that write the number
pub record Digits (digits : List ℕ) (n : ℕ) : Type 0 where
  pub some : 0 < length digits
  pub all : all_ascii_digits digits ≡ true
  pub value : digits_behind 0 digits ≡ n

-- none, plus, or minus
pub data Sign : List ℕ → Bool → Type 0 where
  bare : Sign [] false
  plus : Sign (43 ∷ []) false
  minus : Sign (45 ∷ []) true

-- an optional sign and digits, within 64 bits; or an optional sign, digits, a point and one to four
-- digits, below 10^11
pub data ReadsAs : List ℕ → Value → Type 0 where
  whole : {text sign digits : List ℕ} {negative : Bool} {n : ℕ}
      → Sign sign negative → Digits digits n → IsI64 (signed negative n) → text ≡ sign ++ digits
      → ReadsAs text (Int (signed negative n))
  pointed : {text sign digits fraction : List ℕ} {negative : Bool} {n f : ℕ}
      → Sign sign negative → Digits digits n → Digits fraction f
      → length fraction ≤ 4 → n < 10 ^ 11 → text ≡ sign ++ (digits ++ 46 ∷ fraction)
      → ReadsAs text (Dec (signed negative (n * 10000 + f * last_digit_units (length fraction))))

-- the number of one digit or more, where it is at most this
abbrev pub digits_up_to : ℕ → List ℕ → Option ℕ
digits_up_to most [] = None
digits_up_to most (c ∷ cs) =
    if all_ascii_digits (c ∷ cs) && nat_le (digits_behind 0 (c ∷ cs)) most
    then Some (digits_behind 0 (c ∷ cs)) else None

abbrev pub read_whole : Bool → List ℕ → Option Value
read_whole true digits = option_map (λ n. Int (signed true n)) (digits_up_to (2 ^ 63) digits)
read_whole false digits = option_map (λ n. Int (signed false n)) (digits_up_to (2 ^ 63 - 1) digits)

abbrev pub read_pointed : Bool → List ℕ → List ℕ → Option Value
read_pointed negative digits fraction =
    option_and_then (λ n.
    option_and_then (λ f.
    if nat_le (length fraction) 4
    then Some (Dec (signed negative (n * 10000 + f * last_digit_units (length fraction))))
    else None)
    (digits_up_to 9999 fraction)) (digits_up_to 99999999999 digits)

abbrev pub is_point : ℕ → Bool
is_point byte = byte == 46

abbrev pub read_around : Bool → List ℕ → Option ℕ → Option Value
read_around negative bytes None = read_whole negative bytes
read_around negative bytes (Some place) =
    read_pointed negative (take place bytes) (drop (place + 1) bytes)

abbrev pub read_unsigned : Bool → List ℕ → Option Value
read_unsigned negative bytes = read_around negative bytes (position is_point bytes)

-- the number that a text reads as, answered
abbrev pub read_number : List ℕ → Option Value
read_number [] = None
read_number (b ∷ bs) =
    if b == 43 then read_unsigned false bs else (
    if b == 45 then read_unsigned true bs else read_unsigned false (b ∷ bs))

-- the four digits of f / 10000 without the zeros at the end, but for the first digit
abbrev pub fraction_text : ℕ → List ℕ
fraction_text f =
    (48 + f / 1000)
    ∷ without_trailing 48 ((48 + f / 100 % 10) ∷ (48 + f / 10 % 10) ∷ (48 + f % 10) ∷ [])

-- sign, whole part, point and fraction
abbrev pub dec_text : ℤ → List ℕ
dec_text u =
    sign_text (is_negative u)
    ++ (decimal (unsigned_abs u / 10000) ++ 46 ∷ fraction_text (unsigned_abs u % 10000))
