-- LIKE at work (lang_expr).
use Rattle.std.specs.Prelude.{codes}
use Rattle.std.proofs.Common.{◌≡◌, ℕ, true, false, List, [], ◌∷◌, ◌++◌, Some, None, refl}
use Rattle.sql_meaning.specs.Values.{Null, Text, Blob}
use Rattle.sql_meaning.specs.Likes.{like, like3, like_bounds}
use Rattle.sql_meaning.specs.Expressions.{Lit, Like}
use Rattle.sql_meaning.specs.Evaluation.{ev}
use Rattle.sql_meaning.proofs.ExampleData.{int}

empty_both : like [] [] ≡ true
empty_both = refl

empty_pattern : like (codes "a") [] ≡ false
empty_pattern = refl

empty_text : like [] (codes "%") ≡ true
empty_text = refl

no_character : like [] (codes "_") ≡ false
no_character = refl

in_the_middle : like (codes "abcabd") (codes "a%bd") ≡ true
in_the_middle = refl

longer_pattern : like (codes "ab") (codes "ab_") ≡ false
longer_pattern = refl

-- an e with an accent, small and capital, of two bytes; and a character of four
abbrev accented : List ℕ
accented = 195 ∷ 169 ∷ []

abbrev capital : List ℕ
capital = 195 ∷ 137 ∷ []

abbrev smile : List ℕ
smile = 240 ∷ 159 ∷ 152 ∷ 128 ∷ []

two_bytes : like (accented ++ codes "a") (codes "_a") ≡ true
two_bytes = refl

four_bytes : like (smile ++ codes "a") (codes "_a") ≡ true
four_bytes = refl

one_character : like accented (codes "__") ≡ false
one_character = refl

letters_folded : like (codes "aBc") (codes "AbC") ≡ true
letters_folded = refl

only_ascii_folded : like accented capital ≡ false
only_ascii_folded = refl

-- a blob is like nothing, and NULL leaves it unknown
no_blob : like3 (Blob (codes "a")) (Text (codes "a")) ≡ Some false
no_blob = refl

no_blob_pattern : like3 (Text (codes "a")) (Blob (codes "a")) ≡ Some false
no_blob_pattern = refl

null_side : like3 Null (Blob []) ≡ None
null_side = refl

negated : ev [] [] (Like true (Lit (Text (codes "12"))) (Lit (Text (codes "1%")))) ≡ int 0
negated = refl

-- the bounds of a pattern; none is above a front of the byte 255 alone
bounds : like_bounds (codes "Ab%c") ≡ Some (record { low = codes "ab"; high = Some (codes "ac") })
bounds = refl

no_bounds : like_bounds (codes "%a") ≡ None
no_bounds = refl

no_front : like_bounds (codes "_a") ≡ None
no_front = refl

no_pattern : like_bounds [] ≡ None
no_pattern = refl

last_byte : like_bounds (97 ∷ 255 ∷ [])
    ≡ Some (record { low = 97 ∷ 255 ∷ []; high = None })
last_byte = refl
