-- Expressions whose names are bound to items and columns.
use Rattle.std.specs.Prelude.{ℕ, Bool, Option, List, [], ◌∷◌, ◌++◌, Some, None}
use Rattle.sql_meaning.specs.Values.{Value, Collation, Affinity}
use Rattle.sql_meaning.specs.Rows.{Site, AtRowid, AtColumn}

-- the six comparisons
pub data Op : Type 0 where
  IsEqual : Op
  IsUnequal : Op
  IsBelow : Op
  IsAtMost : Op
  IsAbove : Op
  IsAtLeast : Op

-- a bound expression: a conversion stands where a comparison applies one, and each comparison has
-- its collation; a list of expressions is a type of its own, because the two depend on each other
mutual
  pub data BExpr : Type 0 where
    Lit : (v : Value) → BExpr
    Param : (number : ℕ) → BExpr
    Column : (item column : ℕ) → BExpr
    Rowid : (item : ℕ) → BExpr
    Plus : (e : BExpr) → BExpr
    Collate : (e : BExpr) (collation : Collation) → BExpr
    Cmp : (op : Op) (left right : BExpr) (left_conversion right_conversion : Option Affinity)
        (collation : Collation)
        → BExpr
    OneOf : (negated : Bool) (left : BExpr) (entries : BExprs) (entry_conversion : Option Affinity)
        (collation : Collation)
        → BExpr
    Like : (negated : Bool) (e pattern : BExpr) → BExpr
    IsNull : (negated : Bool) (e : BExpr) → BExpr
    Not : (e : BExpr) → BExpr
    All : (es : BExprs) → BExpr
    Any : (es : BExprs) → BExpr

  pub data BExprs : Type 0 where
    Nil : BExprs
    More : (e : BExpr) (es : BExprs) → BExprs

-- the items that an expression names
abbrev mutual
  pub names : BExpr → List ℕ
  names (Lit v) = []
  names (Param number) = []
  names (Column item column) = item ∷ []
  names (Rowid item) = item ∷ []
  names (Plus e) = names e
  names (Collate e collation) = names e
  names (Cmp op left right left_conversion right_conversion collation) = names left ++ names right
  names (OneOf negated left entries entry_conversion collation) = names left ++ all_names entries
  names (Like negated e pattern) = names e ++ names pattern
  names (IsNull negated e) = names e
  names (Not e) = names e
  names (All es) = all_names es
  names (Any es) = all_names es

  pub all_names : BExprs → List ℕ
  all_names Nil = []
  all_names (More e es) = names e ++ all_names es

-- the members of an AND, and of each AND among them
abbrev mutual
  pub flat : BExpr → List BExpr
  flat (All es) = flat_all es
  flat (Lit v) = Lit v ∷ []
  flat (Param n) = Param n ∷ []
  flat (Column i n) = Column i n ∷ []
  flat (Rowid i) = Rowid i ∷ []
  flat (Plus e) = Plus e ∷ []
  flat (Collate e collation) = Collate e collation ∷ []
  flat (Cmp op l r lc rc collation) = Cmp op l r lc rc collation ∷ []
  flat (OneOf n l es ec collation) = OneOf n l es ec collation ∷ []
  flat (Like n e pattern) = Like n e pattern ∷ []
  flat (IsNull n e) = IsNull n e ∷ []
  flat (Not e) = Not e ∷ []
  flat (Any es) = Any es ∷ []

  pub flat_all : BExprs → List BExpr
  flat_all Nil = []
  flat_all (More e es) = flat e ++ flat_all es

-- a column of an item
pub record ColumnRef : Type 0 where
  pub item : ℕ
  pub site : Site

-- the column of an expression that is one
abbrev pub plain_column : BExpr → Option ColumnRef
plain_column (Column item column) = Some (record { item = item; site = AtColumn column })
plain_column (Rowid item) = Some (record { item = item; site = AtRowid })
plain_column e = None

-- the column of an expression that is one, or is one directly under COLLATE
abbrev pub bare_column : BExpr → Option ColumnRef
bare_column (Collate e collation) = plain_column e
bare_column e = plain_column e

abbrev pub site_expr : ℕ → Site → BExpr
site_expr item AtRowid = Rowid item
site_expr item (AtColumn column) = Column item column

abbrev pub ref_expr : ColumnRef → BExpr
ref_expr c = site_expr c.item c.site
