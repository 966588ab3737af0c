-- Values of a row, a constant or a result, and their order (datatype3, 2, 4.1 and 7).
use Rattle.std.specs.Prelude.{◌≡◌, ℕ, ◌<◌, ◌^◌, ℤ, pos, negsuc, nat_abs, ◌*ℤ◌, Bool, true, false}
use Rattle.std.specs.Prelude.{cond, ◌==◌, List, [], ◌∷◌, reverse}
use Rattle.std.specs.declared.cmp.Ordering.{Ordering}
use Rattle.std.specs.declared.cmp.Ordering.TheVariants.{Less, Equal}
use Rattle.std.specs.List.{AllByRecursion}
use Rattle.std.specs.Ordering.{nat_cmp, int_cmp, on, then_cmp}
use Rattle.std.specs.Cmp.Lexicographic.{slice_cmp}
use Rattle.sql_meaning.specs.Letters.{folded_bytes}

-- a Dec is so many units of 1/10000
pub data Value : Type 0 where
  Null : Value
  Int : (number : ℤ) → Value
  Dec : (units : ℤ) → Value
  Text : (bytes : List ℕ) → Value
  Blob : (bytes : List ℕ) → Value

pub data Collation : Type 0 where
  Binary : Collation
  Nocase : Collation
  Rtrim : Collation

pub data Affinity : Type 0 where
  Integer : Affinity
  Real : Affinity
  Numeric : Affinity
  TextAffinity : Affinity
  BlobAffinity : Affinity

-- within 64 bits
abbrev pub IsI64 : ℤ → Type 0
IsI64 (pos n) = n < 2 ^ 63
IsI64 (negsuc n) = n < 2 ^ 63

abbrev pub IsBytes : List ℕ → Type 0
IsBytes bytes = AllByRecursion (λ byte. byte < 256) bytes

-- the bounds of a value: an Int has 64 bits, a Dec is below 10^11 on either side of 0
abbrev pub IsValue : Value → Type 0
IsValue Null = Unit {0}
IsValue (Int number) = IsI64 number
IsValue (Dec units) = nat_abs units < 10 ^ 15
IsValue (Text bytes) = IsBytes bytes
IsValue (Blob bytes) = IsBytes bytes

abbrev pub is_null : Value → Bool
is_null Null = true
is_null (Int number) = false
is_null (Dec units) = false
is_null (Text bytes) = false
is_null (Blob bytes) = false

abbrev pub without_leading : ℕ → List ℕ → List ℕ
without_leading byte [] = []
without_leading byte (b ∷ bs) = cond (b == byte) (without_leading byte bs) (b ∷ bs)

abbrev pub without_trailing : ℕ → List ℕ → List ℕ
without_trailing byte bytes = reverse (without_leading byte (reverse bytes))

-- what a text is compared by: itself, with `A` to `Z` made lower, or without the spaces at its end
abbrev pub text_key : Collation → List ℕ → List ℕ
text_key Binary bytes = bytes
text_key Nocase bytes = folded_bytes bytes
text_key Rtrim bytes = without_trailing 32 bytes

-- NULL, then numbers, then texts, then blobs
abbrev pub class_of : Value → ℕ
class_of Null = 0
class_of (Int number) = 1
class_of (Dec units) = 1
class_of (Text bytes) = 2
class_of (Blob bytes) = 3

-- a number in units of 1/10000
abbrev pub units_of : Value → ℤ
units_of Null = pos 0
units_of (Int number) = number *ℤ pos 10000
units_of (Dec units) = units
units_of (Text bytes) = pos 0
units_of (Blob bytes) = pos 0

-- the key of a text, or a blob itself
abbrev pub collation_key : Collation → Value → List ℕ
collation_key coll Null = []
collation_key coll (Int number) = []
collation_key coll (Dec units) = []
collation_key coll (Text bytes) = text_key coll bytes
collation_key coll (Blob bytes) = bytes

-- by class, then as numbers, then by key
abbrev pub value_cmp : Collation → Value → Value → Ordering
value_cmp coll =
    then_cmp (on class_of nat_cmp)
    (then_cmp (on units_of int_cmp) (on (collation_key coll) (slice_cmp nat_cmp)))

abbrev pub Before : Collation → Value → Value → Type 0
Before coll v w = value_cmp coll v w ≡ Less

-- neither is before the other
abbrev pub Same : Collation → Value → Value → Type 0
Same coll v w = value_cmp coll v w ≡ Equal
