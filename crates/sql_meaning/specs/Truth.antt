-- The truth of a value as a condition: true, false or unknown (lang_expr, "Boolean Expressions").
-- Of bytes, 32 is a space, 43 a plus, 45 a minus, 46 a point, and 48 to 57 are the digits.
use Rattle.std.specs.Prelude.{◌≡◌, ℕ, nat_abs, Bool, true, not, ◌&&◌, ◌||◌, ◌==◌, if◌then◌else◌}
use Rattle.std.specs.Prelude.{List, [], ◌∷◌, ◌++◌, replicate, Option, Some, None}
use Rattle.std.specs.Char.{is_ascii_digit}
use Rattle.std.specs.List.{list_any}
use Rattle.std.specs.Str.{all_ascii_digits}
use Rattle.sql_meaning.specs.Values.{Value, Null, Int, Dec, Text, Blob, without_leading}
use Rattle.sql_meaning.specs.Numbers.{Sign}

abbrev pub is_nonzero : ℕ → Bool
is_nonzero byte = is_ascii_digit byte && not (byte == 48)

-- none, or one
pub data Point : List ℕ → Type 0 where
  missing : Point []
  there : Point (46 ∷ [])

-- spaces, a sign, digits, a point and digits, each of which may be missing
pub data NumberRun : List ℕ → Type 0 where
  run_of : {run sign point : List ℕ} {negative : Bool} (spaces : ℕ) (digits fraction : List ℕ)
      → Sign sign negative → all_ascii_digits digits ≡ true
      → Point point → all_ascii_digits fraction ≡ true
      → run ≡ replicate spaces 32 ++ (sign ++ (digits ++ (point ++ fraction))) → NumberRun run

-- a run at the start, and so the longest one, has a digit from 1 to 9
pub record HasNonzeroRun (text : List ℕ) : Type 0 where
  pub run : List ℕ
  pub rest : List ℕ
  pub split : text ≡ run ++ rest
  pub is_run : NumberRun run
  pub nonzero : list_any is_nonzero run ≡ true

abbrev pub without_sign : List ℕ → List ℕ
without_sign [] = []
without_sign (b ∷ bs) = if b == 43 || b == 45 then bs else (b ∷ bs)

abbrev pub front_digits : List ℕ → List ℕ
front_digits [] = []
front_digits (b ∷ bs) = if is_ascii_digit b then b ∷ front_digits bs else []

abbrev pub without_digits : List ℕ → List ℕ
without_digits [] = []
without_digits (b ∷ bs) = if is_ascii_digit b then without_digits bs else (b ∷ bs)

-- the digits behind a point, where one comes first
abbrev pub digits_behind_point : List ℕ → List ℕ
digits_behind_point [] = []
digits_behind_point (b ∷ bs) = if b == 46 then front_digits bs else []

-- the digits of the longest run of digits, a point and digits at the start
abbrev pub number_digits : List ℕ → List ℕ
number_digits bytes = front_digits bytes ++ digits_behind_point (without_digits bytes)

-- the same, answered by the longest run
abbrev pub is_true_text : List ℕ → Bool
is_true_text bytes = list_any is_nonzero (number_digits (without_sign (without_leading 32 bytes)))

abbrev pub truth3 : Value → Option Bool
truth3 Null = None
truth3 (Int number) = Some (not (nat_abs number == 0))
truth3 (Dec units) = Some (not (nat_abs units == 0))
truth3 (Text bytes) = Some (is_true_text bytes)
truth3 (Blob bytes) = Some (is_true_text bytes)
