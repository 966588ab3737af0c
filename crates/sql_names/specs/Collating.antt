-- Which collation compares texts (datatype3, 7.1).
use Rattle.std.specs.Prelude.{Option, None, Some, option_map, unwrap_or, List, ℕ}
use Rattle.std.specs.Option.{option_or}
use Rattle.sql_value.specs.View.{plain_collation}
use Rattle.sql_value.specs.Collations.{collation_named}
use Rattle.sql_meaning.specs.Values.{Collation, Binary}
use Rattle.sql_meaning.specs.Schemas.{Schema}
use Rattle.sql_meaning.specs.Items.{Item, own_column}
use Rattle.sql_meaning.specs.Rows.{AtColumn}
use Rattle.sql_meaning.specs.Expressions.{BExpr, BExprs, Lit, Param, Column, Rowid, Plus, Collate}
use Rattle.sql_meaning.specs.Expressions.{Cmp, OneOf, Like, IsNull, Not, All, Any, Nil, More}
use Rattle.sql_names.specs.declared.faults.BindFault.{BindFault}
use Rattle.sql_names.specs.declared.faults.BindFault.TheVariants.{NoSuchCollation}

-- the collation of COLLATE; of any other expression that of its first part that has one
abbrev mutual
  pub explicit : BExpr → Option Collation
  explicit (Lit v) = None
  explicit (Param number) = None
  explicit (Column item column) = None
  explicit (Rowid item) = None
  explicit (Plus e) = explicit e
  explicit (Collate e collation) = Some collation
  explicit (Cmp op left right left_conversion right_conversion collation) =
      option_or (explicit left) (explicit right)
  explicit (OneOf negated left entries entry_conversion collation) =
      option_or (explicit left) (explicit_among entries)
  explicit (Like negated e pattern) = option_or (explicit e) (explicit pattern)
  explicit (IsNull negated e) = explicit e
  explicit (Not e) = explicit e
  explicit (All es) = explicit_among es
  explicit (Any es) = explicit_among es

  pub explicit_among : BExprs → Option Collation
  explicit_among Nil = None
  explicit_among (More e es) = option_or (explicit e) (explicit_among es)

-- a column's own collation, also under unary + and under COLLATE
abbrev pub own_collation : Schema → List Item → BExpr → Option Collation
own_collation schema items (Lit v) = None
own_collation schema items (Param number) = None
own_collation schema items (Column item column) =
    Some (own_column schema items (record { item = item; site = AtColumn column })).collation
own_collation schema items (Rowid item) = Some Binary
own_collation schema items (Plus e) = own_collation schema items e
own_collation schema items (Collate e collation) = own_collation schema items e
own_collation schema items (Cmp op left right lc rc collation) = None
own_collation schema items (OneOf negated left entries ec collation) = None
own_collation schema items (Like negated e pattern) = None
own_collation schema items (IsNull negated e) = None
own_collation schema items (Not e) = None
own_collation schema items (All es) = None
own_collation schema items (Any es) = None

-- an explicit collation before a column's own, and the left side before the right one
abbrev pub compared_under : Schema → List Item → BExpr → BExpr → Collation
compared_under schema items left right =
    unwrap_or
    (option_or (option_or (explicit left) (explicit right))
    (option_or (own_collation schema items left) (own_collation schema items right))) Binary

abbrev pub collation_of : Schema → List Item → BExpr → Collation
collation_of schema items e =
    unwrap_or (option_or (explicit e) (own_collation schema items e)) Binary

-- BINARY stands where a collation isn't known
abbrev pub collation_or : List ℕ → Collation
collation_or name = unwrap_or (option_map plain_collation (collation_named name)) Binary

abbrev pub unknown_if : Option Collation → List ℕ → Option BindFault
unknown_if None name = Some (NoSuchCollation name)
unknown_if (Some collation) name = None

abbrev pub collation_check : List ℕ → Option BindFault
collation_check name = unknown_if (option_map plain_collation (collation_named name)) name
