-- Which number the text of a number token writes.
use Rattle.std.specs.Prelude.{ℕ, ◌+◌, ◌-◌, ◌*◌, ◌^◌, Bool, nat_le, cond, if◌then◌else◌}
use Rattle.std.specs.Prelude.{Option, None, Some, option_map, option_and_then, position}
use Rattle.std.specs.Prelude.{List, [], ◌∷◌, length, take, drop}
use Rattle.sql_meaning.specs.Numbers.{digits_up_to, last_digit_units, is_point, signed}
use Rattle.sql_meaning.specs.Values as plain
use Rattle.sql_tokens.specs.declared.number_values.Number.{Number}
use Rattle.sql_tokens.specs.declared.number_values.Number.TheVariants as number

-- these digits, or a zero where there is none
abbrev pub or_zero : List ℕ → List ℕ
or_zero [] = 48 ∷ []
or_zero (d ∷ ds) = d ∷ ds

-- digits alone
abbrev pub whole_of : List ℕ → Option Number
whole_of digits = option_map (λ n. number.Int n) (digits_up_to (2 ^ 63) digits)

-- digits on either side of the point, at most four of them behind it
abbrev pub decimal_of : List ℕ → List ℕ → Option Number
decimal_of whole fraction =
    option_and_then (λ n. option_and_then (λ f.
    if nat_le (length fraction) 4
    then Some (number.Dec (n * 10000 + f * last_digit_units (length fraction))) else None)
    (digits_up_to 9999 fraction)) (digits_up_to 99999999999 whole)

-- with a point at this place, or with none
abbrev pub number_around : List ℕ → Option ℕ → Option Number
number_around bytes None = whole_of bytes
number_around bytes (Some place) =
    decimal_of (or_zero (take place bytes))
    (or_zero (plain.without_trailing 48 (drop (place + 1) bytes)))

-- the number that the text of a number token writes
abbrev pub number_of : List ℕ → Option Number
number_of bytes = number_around bytes (position is_point bytes)

-- the value of a number, below 0 where a `-` stands before it
abbrev pub signed_value : Bool → Number → Option plain.Value
signed_value negative (number.Int n) =
    if nat_le n (cond negative (2 ^ 63) (2 ^ 63 - 1))
    then Some (plain.Int (signed negative n)) else None
signed_value negative (number.Dec n) =
    if nat_le n 999999999999999 then Some (plain.Dec (signed negative n)) else None
