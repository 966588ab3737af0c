-- Items of a FROM clause, and what a column is in them.
use Rattle.std.specs.Prelude.{ℕ, Bool, Option, Some, None, slice_get, List, ◌≡◌}
use Rattle.sql_meaning.specs.Schemas.{Schema, TableColumn, column_or, column_of_table}
use Rattle.sql_meaning.specs.Values.{Binary, Integer, Affinity}
use Rattle.sql_meaning.specs.Conversions.{side_conversion}
use Rattle.sql_meaning.specs.Rows.{Site, AtRowid, AtColumn}
use Rattle.sql_meaning.specs.Expressions.{ColumnRef, BExpr, Column, Rowid, Collate, Lit, Param}
use Rattle.sql_meaning.specs.Expressions.{Plus, Cmp, OneOf, Like, IsNull, Not, All, Any, BExprs}
use Rattle.sql_meaning.specs.Expressions.{Nil, More}

-- a table in a FROM clause; `cross` where it comes after CROSS JOIN, `left` after LEFT JOIN
pub record Item : Type 0 where
  pub table : ℕ
  pub cross : Bool
  pub left : Bool

abbrev pub table_column : Schema → Option Item → ℕ → TableColumn
table_column schema None column = column_or None
table_column schema (Some item) column = column_of_table (slice_get schema.tables item.table) column

-- a column's own affinity and collation; the rowid has INTEGER and BINARY
abbrev pub own_at : Schema → Option Item → Site → TableColumn
own_at schema item AtRowid = record { affinity = Integer; collation = Binary }
own_at schema item (AtColumn column) = table_column schema item column

abbrev pub own_column : Schema → List Item → ColumnRef → TableColumn
own_column schema items c = own_at schema (slice_get items c.item) c.site

-- the affinity of a column, also under COLLATE; any other expression has none
abbrev pub expr_affinity : Schema → List Item → BExpr → Option Affinity
expr_affinity schema items (Column item column) =
    Some (own_column schema items (record { item = item; site = AtColumn column })).affinity
expr_affinity schema items (Rowid item) = Some Integer
expr_affinity schema items (Collate e collation) = expr_affinity schema items e
expr_affinity schema items e = None

-- each conversion that an expression keeps is the one that its operands' affinities ask for
abbrev mutual
  pub FitsExpr : Schema → List Item → BExpr → Type 0
  FitsExpr schema items (Lit v) = Unit {0}
  FitsExpr schema items (Param number) = Unit {0}
  FitsExpr schema items (Column item column) = Unit {0}
  FitsExpr schema items (Rowid item) = Unit {0}
  FitsExpr schema items (Plus e) = FitsExpr schema items e
  FitsExpr schema items (Collate e collation) = FitsExpr schema items e
  FitsExpr schema items (Cmp op left right left_conversion right_conversion collation) =
      (left_conversion
      ≡ side_conversion (expr_affinity schema items left) (expr_affinity schema items right))
      × (right_conversion
      ≡ side_conversion (expr_affinity schema items right) (expr_affinity schema items left))
      × FitsExpr schema items left × FitsExpr schema items right
  FitsExpr schema items (OneOf negated left entries entry_conversion collation) =
      (entry_conversion ≡ side_conversion None (expr_affinity schema items left))
      × FitsExpr schema items left × FitsExprs schema items entries
  FitsExpr schema items (Like negated e pattern) =
      FitsExpr schema items e × FitsExpr schema items pattern
  FitsExpr schema items (IsNull negated e) = FitsExpr schema items e
  FitsExpr schema items (Not e) = FitsExpr schema items e
  FitsExpr schema items (All es) = FitsExprs schema items es
  FitsExpr schema items (Any es) = FitsExprs schema items es

  pub FitsExprs : Schema → List Item → BExprs → Type 0
  FitsExprs schema items Nil = Unit {0}
  FitsExprs schema items (More e es) = FitsExpr schema items e × FitsExprs schema items es
