-- Columns linked by equality, and the equalities that follow (optoverview).
use Rattle.std.specs.Prelude.{◌≡◌, ◌≢◌, List, Some, ℕ, slice_get, [], None}
use Rattle.sql_meaning.specs.Values.{Affinity, Integer, Real, Numeric, TextAffinity, BlobAffinity}
use Rattle.sql_meaning.specs.Values.{Collation}
use Rattle.sql_meaning.specs.Expressions.{BExpr, ColumnRef, bare_column, IsEqual, Cmp, names}
use Rattle.sql_meaning.specs.Expressions.{ref_expr}
use Rattle.sql_meaning.specs.Schemas.{Schema}
use Rattle.sql_meaning.specs.Items.{Item, own_column}
use Rattle.sql_meaning.specs.Paths.{KeyExpr}
use Rattle.sql_meaning.specs.Terms.{Equals, Term, Serves}

-- under numeric affinities equal values are the same number, and so on: no side of a comparison
-- within a class is converted
abbrev pub affinity_class : Affinity → ℕ
affinity_class Integer = 0
affinity_class Real = 0
affinity_class Numeric = 0
affinity_class TextAffinity = 1
affinity_class BlobAffinity = 2

-- `c = d` links two columns of different items where it compares them as each compares itself: by
-- the own collation of both, and with affinities of one class
pub record LinkOf (schema : Schema) (items : List Item) (c d : ColumnRef) (left right : BExpr)
    (collation : Collation) : Type 0
  where
    pub is_c : bare_column left ≡ Some c
    pub is_d : bare_column right ≡ Some d
    pub apart : c.item ≢ d.item
    pub own_c : (own_column schema items c).collation ≡ collation
    pub own_d : (own_column schema items d).collation ≡ collation
    pub one_class : affinity_class (own_column schema items c).affinity
        ≡ affinity_class (own_column schema items d).affinity

abbrev pub Links : Schema → List Item → ColumnRef → ColumnRef → BExpr → Type 0
Links schema items c d (Cmp IsEqual left right left_conversion right_conversion collation) =
    LinkOf schema items c d left right collation
Links schema items c d e = ⊥

-- linked by one of these conjuncts, or by a chain of them
pub data Linked (schema : Schema) (items : List Item) (es : List BExpr) : ColumnRef → ColumnRef
    → Type 0 where
  link : (c d : ColumnRef) (number : ℕ) (e : BExpr) → slice_get es number ≡ Some e
      → Links schema items c d e → Linked schema items es c d
  back : (c d : ColumnRef) → Linked schema items es c d → Linked schema items es d c
  chain : (c d e : ColumnRef) → Linked schema items es c d → Linked schema items es d e
      → Linked schema items es c e

-- what follows for a column c of the item: `c = e` where d is linked with c and a conjunct says `d
-- = e` of a value e; and `c = d` where d is linked with c and is another item's
pub data Derives (schema : Schema) (items : List Item) (es : List BExpr) (item : ℕ) : Term
    → Type 0 where
  by_key : (c d : ColumnRef) (number : ℕ) (e : BExpr) (key : KeyExpr) → c.item ≡ item
      → Linked schema items es c d → slice_get es number ≡ Some e
      → Serves d.item d.site (own_column schema items c).collation (Equals key) e
      → names key.expr ≡ []
      → Derives schema items es item
      (record {
        column = c.site;
        conjunct = None;
        collation = (own_column schema items c).collation;
        kind = Equals key;
      })
  by_column : (c d : ColumnRef) → c.item ≡ item → d.item ≢ item → Linked schema items es c d
      → Derives schema items es item
      (record {
        column = c.site;
        conjunct = None;
        collation = (own_column schema items c).collation;
        kind = Equals (record { expr = ref_expr d; conversion = None });
      })
