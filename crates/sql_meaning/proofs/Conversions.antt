-- What was converted stays as it is under the same conversion.
use Rattle.std.proofs.Common.{◌≡◌, ℕ, zero, suc, ℤ, pos, negsuc, nat_abs, int_rem, int_div, ◌*ℤ◌}
use Rattle.std.proofs.Common.{◌^◌, Bool, true, false, nat_lt, ◌==◌, if◌then◌else◌, List, Option}
use Rattle.std.proofs.Common.{Some, None, refl, subst, arith}
use Rattle.std.proofs.lemmas.Bool.{eqb-true}
use Rattle.std.proofs.lemmas.Int.{ints, quot-rem}
use Rattle.sql_meaning.specs.Values.{Collation, Same, Value, Null, Int, Dec, Text, Blob, Affinity}
use Rattle.sql_meaning.specs.Values.{Integer, Real, Numeric, TextAffinity, BlobAffinity}
use Rattle.sql_meaning.specs.Numbers.{ReadsAs, whole, pointed, read_number}
use Rattle.sql_meaning.specs.Conversions.{with_text_read, narrowed, widened, converted, is_numeric}
use Rattle.sql_meaning.proofs.Order.{same_reflexive, same_symmetric}
use Rattle.sql_meaning.proofs.Reading.{sound, complete}

number_kept : (text : List ℕ) (v : Value) → ReadsAs text v → with_text_read v ≡ v
number_kept _ _ (whole s d i e) = refl
number_kept _ _ (pointed s d p l h e) = refl

text_read_again : (text : List ℕ) (o : Option Value) → read_number text ≡ o
    → with_text_read (with_text_read (Text text)) ≡ with_text_read (Text text)
text_read_again text None e = rw e (rw e refl)
text_read_again text (Some v) e = rw e (number_kept text v (sound text v e))

read_again : (v : Value) → with_text_read (with_text_read v) ≡ with_text_read v
read_again Null = refl
read_again (Int n) = refl
read_again (Dec u) = refl
read_again (Text t) = text_read_again t (read_number t) refl
read_again (Blob b) = refl

narrowed_case : (u : ℤ) (b : Bool) → (nat_abs (int_rem u (pos 10000)) == 0) ≡ b
    → narrowed (with_text_read (if b then Int (int_div u (pos 10000)) else Dec u)) ≡ (if b
    then Int (int_div u (pos 10000)) else Dec u)
narrowed_case u true e = refl
narrowed_case u false e = rw e refl

narrowed_again : (v : Value) → with_text_read v ≡ v
    → narrowed (with_text_read (narrowed v)) ≡ narrowed v
narrowed_again Null e = refl
narrowed_again (Int n) e = refl
narrowed_again (Dec u) e = narrowed_case u (nat_abs (int_rem u (pos 10000)) == 0) refl
narrowed_again (Text t) e = rw e refl
narrowed_again (Blob b) e = refl

widened_case : (n : ℤ) (b : Bool) → nat_lt (nat_abs n) (10 ^ 11) ≡ b
    → widened (with_text_read (if b then Dec (n *ℤ pos 10000) else Int n)) ≡ (if b
    then Dec (n *ℤ pos 10000) else Int n)
widened_case n true e = refl
widened_case n false e = rw e refl

widened_again : (v : Value) → with_text_read v ≡ v
    → widened (with_text_read (widened v)) ≡ widened v
widened_again Null e = refl
widened_again (Int n) e = widened_case n (nat_lt (nat_abs n) (10 ^ 11)) refl
widened_again (Dec u) e = refl
widened_again (Text t) e = rw e refl
widened_again (Blob b) e = refl

written_again : (v : Value) → converted TextAffinity
    (converted TextAffinity v) ≡ converted TextAffinity v
written_again Null = refl
written_again (Int n) = refl
written_again (Dec u) = refl
written_again (Text t) = refl
written_again (Blob b) = refl

pub converted_is_fixed : (aff : Affinity) (v : Value)
    → converted aff (converted aff v) ≡ converted aff v
converted_is_fixed Integer v = narrowed_again (with_text_read v) (read_again v)
converted_is_fixed Numeric v = narrowed_again (with_text_read v) (read_again v)
converted_is_fixed Real v = widened_again (with_text_read v) (read_again v)
converted_is_fixed TextAffinity v = written_again v
converted_is_fixed BlobAffinity v = refl

-- a whole number of units of 1/10000 is its part before the point
whole_part : (u : ℤ) → (nat_abs (int_rem u (pos 10000)) == 0) ≡ true
    → int_div u (pos 10000) *ℤ pos 10000 ≡ u
whole_part u e =
    let parts = quot-rem u (pos 10000) in
    let none = no_rest (int_rem u (pos 10000)) e in
    omega (arith, ints, parts, none)
  where
    no_rest : (r : ℤ) → (nat_abs r == 0) ≡ true → r ≡ pos 0
    no_rest (pos zero) e = refl
    no_rest (pos (suc n)) e = let none = eqb-true (suc n) 0 e in absurd (omega (arith, none))
    no_rest (negsuc n) e = let none = eqb-true (suc n) 0 e in absurd (omega (arith, none))

same_units : (coll : Collation) (n u : ℤ) → n *ℤ pos 10000 ≡ u → Same coll (Int n) (Dec u)
same_units coll n u e = rw e (same_reflexive coll (Dec u))

narrowed_same_case : (coll : Collation) (u : ℤ) (b : Bool)
    → (nat_abs (int_rem u (pos 10000)) == 0) ≡ b
    → Same coll (if b then Int (int_div u (pos 10000)) else Dec u) (Dec u)
narrowed_same_case coll u true e = same_units coll (int_div u (pos 10000)) u (whole_part u e)
narrowed_same_case coll u false e = same_reflexive coll (Dec u)

narrowed_same : (coll : Collation) (v : Value) → Same coll (narrowed v) v
narrowed_same coll Null = same_reflexive coll Null
narrowed_same coll (Int n) = same_reflexive coll (Int n)
narrowed_same coll (Dec u) = narrowed_same_case coll u (nat_abs (int_rem u (pos 10000)) == 0) refl
narrowed_same coll (Text t) = same_reflexive coll (Text t)
narrowed_same coll (Blob b) = same_reflexive coll (Blob b)

widened_same_case : (coll : Collation) (n : ℤ) (b : Bool)
    → Same coll (if b then Dec (n *ℤ pos 10000) else Int n) (Int n)
widened_same_case coll n true =
    same_symmetric coll (Int n) (Dec (n *ℤ pos 10000)) (same_units coll n (n *ℤ pos 10000) refl)
widened_same_case coll n false = same_reflexive coll (Int n)

widened_same : (coll : Collation) (v : Value) → Same coll (widened v) v
widened_same coll Null = same_reflexive coll Null
widened_same coll (Int n) = widened_same_case coll n (nat_lt (nat_abs n) (10 ^ 11))
widened_same coll (Dec u) = same_reflexive coll (Dec u)
widened_same coll (Text t) = same_reflexive coll (Text t)
widened_same coll (Blob b) = same_reflexive coll (Blob b)

-- a numeric conversion gives what compares as the number that the value reads as
pub converted_same : (aff : Affinity) → is_numeric (Some aff) ≡ true
    → (coll : Collation) (v : Value)
    → Same coll (converted aff v) (with_text_read v)
converted_same Integer e coll v = narrowed_same coll (with_text_read v)
converted_same Numeric e coll v = narrowed_same coll (with_text_read v)
converted_same Real e coll v = widened_same coll (with_text_read v)
converted_same TextAffinity e coll v = absurd (cc)
converted_same BlobAffinity e coll v = absurd (cc)

read_text : (text : List ℕ) (v : Value) → ReadsAs text v → with_text_read (Text text) ≡ v
read_text text v r = rw (complete text v r) refl

pub read_text_same : (aff : Affinity) → is_numeric (Some aff) ≡ true
    → (coll : Collation) (text : List ℕ) (v : Value)
    → ReadsAs text v → Same coll (converted aff (Text text)) v
read_text_same aff e coll text v r =
    subst (Same coll (converted aff (Text text))) (read_text text v r)
    (converted_same aff e coll (Text text))
