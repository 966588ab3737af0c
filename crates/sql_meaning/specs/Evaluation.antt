-- The value of an expression: three-valued, as in lang_expr of SQLite.
use Rattle.std.specs.Prelude.{Bool, cond, ◌||◌, Option, Some, None, true, false, not, pos, ℕ, zero}
use Rattle.std.specs.Prelude.{suc, List, slice_index_or, [], ◌∷◌, map}
use Rattle.std.specs.declared.cmp.Ordering.{Ordering}
use Rattle.std.specs.Ordering.{is_eq, is_ne, is_lt, is_le, is_gt, is_ge}
use Rattle.std.specs.Option.{option_map}
use Rattle.sql_meaning.specs.Expressions.{Op, IsEqual, IsUnequal, IsBelow, IsAtMost, IsAbove}
use Rattle.sql_meaning.specs.Expressions.{IsAtLeast, BExpr, BExprs, Lit, Param, Column, Rowid, Plus}
use Rattle.sql_meaning.specs.Expressions.{Collate, Cmp, OneOf, Like, IsNull, Not, All, Any, Nil}
use Rattle.sql_meaning.specs.Expressions.{More}
use Rattle.sql_meaning.specs.Values.{Value, Collation, value_cmp, is_null, Null, Int}
use Rattle.sql_meaning.specs.Truth.{truth3}
use Rattle.sql_meaning.specs.Likes.{like3}
use Rattle.sql_meaning.specs.Conversions.{converted_by}
use Rattle.sql_meaning.specs.Rows.{AtRowid, AtColumn, Assignment, cell}

-- what an outcome of an order says of a comparison
abbrev pub op_holds : Op → Ordering → Bool
op_holds IsEqual o = is_eq o
op_holds IsUnequal o = is_ne o
op_holds IsBelow o = is_lt o
op_holds IsAtMost o = is_le o
op_holds IsAbove o = is_gt o
op_holds IsAtLeast o = is_ge o

-- unknown where a side is NULL
abbrev pub compare3 : Op → Collation → Value → Value → Option Bool
compare3 op collation left right =
    cond (is_null left || is_null right) None (Some (op_holds op (value_cmp collation left right)))

abbrev pub and3 : Option Bool → Option Bool → Option Bool
and3 (Some false) b = Some false
and3 (Some true) b = b
and3 None (Some false) = Some false
and3 None (Some true) = None
and3 None None = None

abbrev pub or3 : Option Bool → Option Bool → Option Bool
or3 (Some true) b = Some true
or3 (Some false) b = b
or3 None (Some true) = Some true
or3 None (Some false) = None
or3 None None = None

abbrev pub not3 : Option Bool → Option Bool
not3 t = option_map not t

-- NOT IN, NOT LIKE and IS NOT NULL
abbrev pub negated_if : Bool → Option Bool → Option Bool
negated_if true t = not3 t
negated_if false t = t

-- a condition's value is Int 1, Int 0 or NULL
abbrev pub from_truth : Option Bool → Value
from_truth None = Null
from_truth (Some true) = Int (pos 1)
from_truth (Some false) = Int (pos 0)

-- a parameter that isn't given is NULL
abbrev pub param_value : List Value → ℕ → Value
param_value params zero = Null
param_value params (suc n) = slice_index_or params n Null

-- whether the value is one of the values
abbrev pub one_of3 : Collation → Value → List Value → Option Bool
one_of3 collation v [] = Some false
one_of3 collation v (w ∷ ws) = or3 (compare3 IsEqual collation v w) (one_of3 collation v ws)

-- the AND of some values
abbrev pub all3 : List Value → Option Bool
all3 [] = Some true
all3 (v ∷ vs) = and3 (truth3 v) (all3 vs)

-- the OR of some values
abbrev pub any3 : List Value → Option Bool
any3 [] = Some false
any3 (v ∷ vs) = or3 (truth3 v) (any3 vs)

-- a condition's value is Int 1, Int 0 or NULL; all else is the value itself
abbrev mutual
  pub ev : Assignment → List Value → BExpr → Value
  ev env params (Lit v) = v
  ev env params (Param number) = param_value params number
  ev env params (Column item column) = cell env item (AtColumn column)
  ev env params (Rowid item) = cell env item AtRowid
  ev env params (Plus e) = ev env params e
  ev env params (Collate e collation) = ev env params e
  ev env params (Cmp op left right left_conversion right_conversion collation) =
      from_truth
      (compare3 op collation (converted_by left_conversion (ev env params left))
      (converted_by right_conversion (ev env params right)))
  ev env params (OneOf negated left entries entry_conversion collation) =
      from_truth
      (negated_if negated
      (one_of3 collation (ev env params left)
      (map (converted_by entry_conversion) (evs env params entries))))
  ev env params (Like negated e pattern) =
      from_truth (negated_if negated (like3 (ev env params e) (ev env params pattern)))
  ev env params (IsNull negated e) =
      from_truth (negated_if negated (Some (is_null (ev env params e))))
  ev env params (Not e) = from_truth (not3 (truth3 (ev env params e)))
  ev env params (All es) = from_truth (all3 (evs env params es))
  ev env params (Any es) = from_truth (any3 (evs env params es))

  pub evs : Assignment → List Value → BExprs → List Value
  evs env params Nil = []
  evs env params (More e es) = ev env params e ∷ evs env params es

abbrev pub is_true : Option Bool → Bool
is_true None = false
is_true (Some b) = b

-- the condition is true; where it is false or unknown, a row is not kept
abbrev pub holds : Assignment → List Value → BExpr → Bool
holds env params e = is_true (truth3 (ev env params e))

-- the comparison is true, not unknown
abbrev pub compares : Op → Collation → Value → Value → Bool
compares op collation left right = is_true (compare3 op collation left right)

-- the value equals one of the keys
abbrev pub equals_any : Collation → List Value → Value → Bool
equals_any collation [] v = false
equals_any collation (key ∷ keys) v =
    compares IsEqual collation v key || equals_any collation keys v
