-- Values, comparisons and conditions at work (datatype3, lang_expr).
use Rattle.std.specs.Prelude.{codes}
use Rattle.std.specs.declared.cmp.Ordering.TheVariants.{Less, Equal}
use Rattle.std.proofs.Common.{◌≡◌, pos, negsuc, true, false, [], ◌∷◌, Some, None, refl}
use Rattle.sql_meaning.specs.Values.{Null, Int, Dec, Text, Blob, Binary, Nocase, Rtrim, Integer}
use Rattle.sql_meaning.specs.Values.{Real, Numeric, TextAffinity, BlobAffinity, value_cmp}
use Rattle.sql_meaning.specs.Conversions.{converted, side_conversion}
use Rattle.sql_meaning.specs.Truth.{truth3}
use Rattle.sql_meaning.specs.Expressions.{Lit, Param, Column, Cmp, OneOf, IsNull, Not, All, Any}
use Rattle.sql_meaning.specs.Expressions.{Nil, More, IsBelow, names, flat}
use Rattle.sql_meaning.specs.Evaluation.{ev, holds}
use Rattle.sql_meaning.proofs.ExampleData.{int, row, equals}

-- '1.0' is 1 in an INTEGER column, 1 is 1.0 in a REAL one; what isn't a number stays a text
int_of_text : converted Integer (Text (codes "1.0")) ≡ int 1
int_of_text = refl

dec_of_int : converted Real (int 1) ≡ Dec (pos 10000)
dec_of_int = refl

too_long : converted Numeric (Text (codes "1.50000")) ≡ Text (codes "1.50000")
too_long = refl

no_whole_part : converted Numeric (Text (codes ".5")) ≡ Text (codes ".5")
no_whole_part = refl

least_int : converted Integer (Text (codes "-9223372036854775808"))
    ≡ Int (negsuc 9223372036854775807)
least_int = refl

-- numbers before texts before blobs; texts by their collation
one_below : value_cmp Binary (int 1) (Dec (pos 15000)) ≡ Less
one_below = refl

text_below_blob : value_cmp Binary (Text (codes "z")) (Blob []) ≡ Less
text_below_blob = refl

same_rtrim : value_cmp Rtrim (Text (codes "a ")) (Text (codes "a")) ≡ Equal
same_rtrim = refl

same_nocase : value_cmp Nocase (Text (codes "A")) (Text (codes "a")) ≡ Equal
same_nocase = refl

-- a number's column makes a number of the other side; a text's column makes a text of a constant
numeric_to_text : side_conversion (Some TextAffinity) (Some Integer) ≡ Some Numeric
numeric_to_text = refl

text_to_none : side_conversion None (Some TextAffinity) ≡ Some TextAffinity
text_to_none = refl

text_to_blob : side_conversion (Some BlobAffinity) (Some TextAffinity) ≡ None
text_to_blob = refl

-- the longest number at the start of a text decides its truth
front_true : truth3 (Text (codes " -0.1x")) ≡ Some true
front_true = refl

front_false : truth3 (Text (codes "x1")) ≡ Some false
front_false = refl

-- NULL = 1 is unknown, so neither it nor its negation is kept; but it may decide an OR or an AND
unknown : ev [] [] (equals (Lit Null) (Lit (int 1))) ≡ Null
unknown = refl

not_unknown : ev [] [] (Not (equals (Lit Null) (Lit (int 1)))) ≡ Null
not_unknown = refl

or_true : ev [] [] (Any (More (equals (Lit Null) (Lit (int 1))) (More (Lit (int 7)) Nil))) ≡ int 1
or_true = refl

and_false : ev [] [] (All (More (equals (Lit Null) (Lit (int 1))) (More (Lit (int 0)) Nil)))
    ≡ int 0
and_false = refl

-- an empty IN list is false, also for NULL; NULL among the entries may leave it unknown
empty_list : ev [] [] (OneOf false (Lit Null) Nil None Binary) ≡ int 0
empty_list = refl

null_entry : ev [] [] (OneOf false (Lit (int 2)) (More (Lit Null) Nil) None Binary) ≡ Null
null_entry = refl

found_entry : ev [] []
    (OneOf false (Lit (int 2)) (More (Lit Null) (More (Lit (int 2)) Nil)) None Binary)
    ≡ int 1
found_entry = refl

-- `'10' < 9` compares numbers where a side is a number's column; a parameter that isn't given is
-- NULL
as_numbers : holds [] []
    (Cmp IsBelow (Lit (Text (codes "10"))) (Lit (int 9)) (Some Numeric) None Binary)
    ≡ false
as_numbers = refl

not_given : ev [] (int 5 ∷ []) (IsNull false (Param 2)) ≡ int 1
not_given = refl

-- a column of the missing row is NULL
missing : ev (Some (Some (row 1 (int 3 ∷ []))) ∷ Some None ∷ []) []
    (All (More (equals (Column 0 0) (Lit (int 3))) (More (IsNull false (Column 1 0)) Nil)))
    ≡ int 1
missing = refl

-- an AND is as many conjuncts as it has members; each names its items
flattened : flat
    (All (More (Column 0 0) (More (All (More (Column 1 0) (More (Column 0 2) Nil))) Nil)))
    ≡ Column 0 0 ∷ Column 1 0 ∷ Column 0 2 ∷ []
flattened = refl

named : names (equals (Column 3 0) (Column 1 4)) ≡ 3 ∷ 1 ∷ []
named = refl
