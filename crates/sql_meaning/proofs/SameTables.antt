-- Which conversions an expression asks for depends on the schema's tables alone, and not on its
-- indexes.
use Rattle.std.proofs.Common.{◌≡◌, None, List, refl, ap, ap₂, ◌∙◌}
use Rattle.sql_meaning.specs.Conversions.{side_conversion}
use Rattle.sql_meaning.specs.Schemas.{Schema, Index, with_indexes}
use Rattle.sql_meaning.specs.Items.{Item, FitsExpr, FitsExprs, expr_affinity}
use Rattle.sql_meaning.specs.Expressions.{BExpr, BExprs, Lit, Param, Column, Rowid, Plus, Collate}
use Rattle.sql_meaning.specs.Expressions.{Cmp, OneOf, IsNull, Like, Not, All, Any, Nil}
use Rattle.sql_meaning.specs.Expressions.{More}

affinity : (schema : Schema) (indexes : List Index) (items : List Item) (e : BExpr)
    → expr_affinity schema items e ≡ expr_affinity (with_indexes schema indexes) items e
affinity schema indexes items (Lit v) = refl
affinity schema indexes items (Param number) = refl
affinity schema indexes items (Column item column) = refl
affinity schema indexes items (Rowid item) = refl
affinity schema indexes items (Plus e) = refl
affinity schema indexes items (Collate e collation) = affinity schema indexes items e
affinity schema indexes items (Cmp op left right lc rc collation) = refl
affinity schema indexes items (OneOf negated left entries ec collation) = refl
affinity schema indexes items (IsNull negated e) = refl
affinity schema indexes items (Like negated e pattern) = refl
affinity schema indexes items (Not e) = refl
affinity schema indexes items (All es) = refl
affinity schema indexes items (Any es) = refl

sides : (schema : Schema) (indexes : List Index) (items : List Item) (left right : BExpr)
    → side_conversion (expr_affinity schema items left) (expr_affinity schema items right)
    ≡ side_conversion (expr_affinity (with_indexes schema indexes) items left)
    (expr_affinity (with_indexes schema indexes) items right)
sides schema indexes items left right =
    ap₂ side_conversion (affinity schema indexes items left) (affinity schema indexes items right)

mutual
  pub conversions : (schema : Schema) (indexes : List Index) (items : List Item) (e : BExpr)
      → FitsExpr schema items e → FitsExpr (with_indexes schema indexes) items e
  conversions schema indexes items (Lit v) h = tt
  conversions schema indexes items (Param number) h = tt
  conversions schema indexes items (Column item column) h = tt
  conversions schema indexes items (Rowid item) h = tt
  conversions schema indexes items (Plus e) h = conversions schema indexes items e h
  conversions schema indexes items (Collate e collation) h = conversions schema indexes items e h
  conversions schema indexes items (Cmp op left right lc rc collation) h = (
    h.0 ∙ sides schema indexes items left right,
    h.1 ∙ sides schema indexes items right left,
    conversions schema indexes items left h.2,
    conversions schema indexes items right h.3,
  )
  conversions schema indexes items (OneOf negated left entries ec collation) h = (
    h.0 ∙ ap (side_conversion None) (affinity schema indexes items left),
    conversions schema indexes items left h.1,
    all_conversions schema indexes items entries h.2,
  )
  conversions schema indexes items (IsNull negated e) h = conversions schema indexes items e h
  conversions schema indexes items (Like negated e pattern) h =
      (conversions schema indexes items e h.0, conversions schema indexes items pattern h.1)
  conversions schema indexes items (Not e) h = conversions schema indexes items e h
  conversions schema indexes items (All es) h = all_conversions schema indexes items es h
  conversions schema indexes items (Any es) h = all_conversions schema indexes items es h

  all_conversions : (schema : Schema) (indexes : List Index) (items : List Item) (es : BExprs)
      → FitsExprs schema items es → FitsExprs (with_indexes schema indexes) items es
  all_conversions schema indexes items Nil h = tt
  all_conversions schema indexes items (More e es) h =
      (conversions schema indexes items e h.0, all_conversions schema indexes items es h.1)
