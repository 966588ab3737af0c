-- What becomes of a value in a column, and of the two sides of a comparison (datatype3, 3 and 4.2).
use Rattle.std.specs.Prelude.{◌≡◌, ◌^◌, pos, nat_abs, ◌*ℤ◌, int_div, int_rem, Bool, true, false}
use Rattle.std.specs.Prelude.{not, ◌&&◌, ◌==◌, nat_lt, if◌then◌else◌, Option, Some, None, unwrap_or}
use Rattle.std.specs.Fmt.{signed_decimal}
use Rattle.sql_meaning.specs.Values.{Value, Null, Int, Dec, Text, Blob, Affinity, Integer, Real}
use Rattle.sql_meaning.specs.Values.{Numeric, TextAffinity, BlobAffinity}
use Rattle.sql_meaning.specs.Numbers.{read_number, dec_text}

-- a text that reads as a number is that number
abbrev pub with_text_read : Value → Value
with_text_read Null = Null
with_text_read (Int number) = Int number
with_text_read (Dec units) = Dec units
with_text_read (Text bytes) = unwrap_or (read_number bytes) (Text bytes)
with_text_read (Blob bytes) = Blob bytes

-- a Dec that is a whole number is an Int
abbrev pub narrowed : Value → Value
narrowed Null = Null
narrowed (Int number) = Int number
narrowed (Dec units) =
    if nat_abs (int_rem units (pos 10000)) == 0 then Int (int_div units (pos 10000)) else Dec units
narrowed (Text bytes) = Text bytes
narrowed (Blob bytes) = Blob bytes

-- an Int below 10^11 on either side of 0 is a Dec
abbrev pub widened : Value → Value
widened Null = Null
widened (Int number) =
    if nat_lt (nat_abs number) (10 ^ 11) then Dec (number *ℤ pos 10000) else Int number
widened (Dec units) = Dec units
widened (Text bytes) = Text bytes
widened (Blob bytes) = Blob bytes

-- a number is its text
abbrev pub written : Value → Value
written Null = Null
written (Int number) = Text (signed_decimal number)
written (Dec units) = Text (dec_text units)
written (Text bytes) = Text bytes
written (Blob bytes) = Blob bytes

abbrev pub converted : Affinity → Value → Value
converted Integer v = narrowed (with_text_read v)
converted Numeric v = narrowed (with_text_read v)
converted Real v = widened (with_text_read v)
converted TextAffinity v = written v
converted BlobAffinity v = v

-- the conversion changes nothing: what a column of this affinity holds
abbrev pub IsFixed : Affinity → Value → Type 0
IsFixed aff v = converted aff v ≡ v

abbrev pub converted_by : Option Affinity → Value → Value
converted_by None v = v
converted_by (Some aff) v = converted aff v

abbrev pub is_numeric : Option Affinity → Bool
is_numeric None = false
is_numeric (Some Integer) = true
is_numeric (Some Real) = true
is_numeric (Some Numeric) = true
is_numeric (Some TextAffinity) = false
is_numeric (Some BlobAffinity) = false

abbrev pub is_text : Option Affinity → Bool
is_text None = false
is_text (Some Integer) = false
is_text (Some Real) = false
is_text (Some Numeric) = false
is_text (Some TextAffinity) = true
is_text (Some BlobAffinity) = false

abbrev pub has_none : Option Affinity → Bool
has_none None = true
has_none (Some aff) = false

-- the conversion of one side of a comparison, from its own affinity and the other side's: NUMERIC
-- against a number's column, TEXT for a side of no affinity against a text's
abbrev pub side_conversion : Option Affinity → Option Affinity → Option Affinity
side_conversion own other =
    if is_numeric other && not (is_numeric own) then Some Numeric else (
    if is_text other && has_none own then Some TextAffinity else None)
