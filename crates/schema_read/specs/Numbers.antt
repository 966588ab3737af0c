-- Numbers of a dump.
use Rattle.std.specs.Prelude.{ℕ, ◌+◌, ◌==◌, Bool, List, [], ◌∷◌, ◌++◌, take, drop, position, Option}
use Rattle.std.specs.Prelude.{None, Some, if◌then◌else◌}
use Rattle.sql_meaning.specs.Values.{Value, without_trailing}
use Rattle.sql_meaning.specs.Numbers.{read_number}

abbrev pub some_digits : List ℕ → List ℕ
some_digits [] = 48 ∷ []
some_digits (d ∷ ds) = d ∷ ds

-- a digit at least on both sides of the point, and no further zeros at the end
abbrev pub pointed_text : List ℕ → List ℕ → List ℕ
pointed_text whole fraction = some_digits whole ++ (46 ∷ [])
    ++ some_digits (without_trailing 48 fraction)

abbrev pub is_point : ℕ → Bool
is_point byte = byte == 46

abbrev pub text_around : List ℕ → Option ℕ → List ℕ
text_around bytes None = bytes
text_around bytes (Some place) = pointed_text (take place bytes) (drop (place + 1) bytes)

-- a number as values write it
abbrev pub number_text : List ℕ → List ℕ
number_text bytes = text_around bytes (position is_point bytes)

-- the value of a number, which has no exponent and no more digits than values have
abbrev pub number_value : Bool → List ℕ → Option Value
number_value negative bytes = read_number ((if negative then 45 ∷ [] else []) ++ number_text bytes)
