-- The equalities that follow for a column, given the columns that are linked with it.
use Rattle.std.specs.Prelude.{List, Bool, false, ◌||◌}
use Rattle.std.specs.List.{flat_map}
use Rattle.sql_meaning.specs.Schemas.{Schema}
use Rattle.sql_meaning.specs.Items.{Item, own_column}
use Rattle.sql_meaning.specs.Expressions.{BExpr, ColumnRef, Cmp, names}
use Rattle.sql_meaning.specs.Serving.{key_under, comparison_served}
use Rattle.sql_meaning.specs.Statements.{is_empty}
use Rattle.sql_meaning.specs.Terms.{Term}
use Rattle.sql_meaning.specs.TermLists.{key_term}

-- `c = e` for each linked column d with `d = e`
abbrev pub keys_along : Schema → List Item → ColumnRef → List ColumnRef → BExpr → List Term
keys_along schema items c ds e =
    flat_map
    (λ d. key_term schema items c
    (key_under d.site (own_column schema items c).collation (comparison_served d.item e))) ds

abbrev pub linked_keys : Schema → List Item → ColumnRef → List ColumnRef → List BExpr → List Term
linked_keys schema items c ds es = flat_map (λ e. keys_along schema items c ds e) es

-- a side of the comparison names no item
abbrev pub has_constant : BExpr → Bool
has_constant (Cmp op left right left_conversion right_conversion collation) =
    is_empty (names left) || is_empty (names right)
has_constant e = false
