-- Terms: what a conjunct says of one column, so that an index can be used (optoverview, "WHERE
-- Clause Analysis").
use Rattle.std.specs.Prelude.{Bool, List, ℕ, Option, [], ◌∷◌, cond, map, true, ◌&&◌, false, Some}
use Rattle.std.specs.Prelude.{None, ◌≡◌, ◌≢◌, ◌⊎◌, ◌++◌}
use Rattle.std.specs.List.{AllByRecursion}
use Rattle.sql_meaning.specs.Paths.{KeyExpr, key_value, EqPart, OneKey, ManyKeys, NullKey, Edge}
use Rattle.sql_meaning.specs.Paths.{SeekForm}
use Rattle.sql_meaning.specs.Values.{Collation, Value, is_null, Affinity}
use Rattle.sql_meaning.specs.Rows.{Site, Assignment, cell, Row, site_value, AtRowid, AtColumn}
use Rattle.sql_meaning.specs.Expressions.{IsEqual, IsBelow, IsAtMost, IsAbove, IsAtLeast, Op}
use Rattle.sql_meaning.specs.Expressions.{IsUnequal, BExpr, names, bare_column, BExprs, Nil, More}
use Rattle.sql_meaning.specs.Expressions.{Cmp, all_names, OneOf, IsNull, Any}
use Rattle.sql_meaning.specs.Evaluation.{compares, equals_any}
use Rattle.sql_meaning.specs.IndexLists.{SortColumn}

-- what a term says of its column: `= key`, `IN (keys)`, `IS NULL`, `> key` or `>= key`, `< key` or
-- `<= key`
pub data TermKind : Type 0 where
  Equals : (key : KeyExpr) → TermKind
  Within : (keys : List KeyExpr) → TermKind
  IsNothing : TermKind
  Low : (key : KeyExpr) (inclusive : Bool) → TermKind
  High : (key : KeyExpr) (inclusive : Bool) → TermKind

-- a term keeps the collation of its comparison and the number of its conjunct; a derived one has no
-- conjunct
pub record Term : Type 0 where
  pub column : Site
  pub conjunct : Option ℕ
  pub collation : Collation
  pub kind : TermKind

abbrev pub term_keys : TermKind → List KeyExpr
term_keys (Equals key) = key ∷ []
term_keys (Within keys) = keys
term_keys IsNothing = []
term_keys (Low key inclusive) = key ∷ []
term_keys (High key inclusive) = key ∷ []

-- the term is true of a value of its column
abbrev pub kind_holds : Assignment → List Value → Collation → TermKind → Value → Bool
kind_holds env params collation (Equals key) v =
    compares IsEqual collation v (key_value env params key)
kind_holds env params collation (Within keys) v =
    equals_any collation (map (key_value env params) keys) v
kind_holds env params collation IsNothing v = is_null v
kind_holds env params collation (Low key inclusive) v =
    compares (cond inclusive IsAtLeast IsAbove) collation v (key_value env params key)
kind_holds env params collation (High key inclusive) v =
    compares (cond inclusive IsAtMost IsBelow) collation v (key_value env params key)

-- the term of the item's column is true of an assignment
abbrev pub term_holds : Assignment → List Value → ℕ → Term → Bool
term_holds env params item t = kind_holds env params t.collation t.kind (cell env item t.column)

-- all terms are true of a row of the item, for given rows of the placed items
abbrev pub terms_true : Assignment → List Value → List Term → Row → Bool
terms_true env params [] row = true
terms_true env params (t ∷ ts) row =
    kind_holds env params t.collation t.kind (site_value t.column row)
    && terms_true env params ts row

-- the comparison that says the same with its sides exchanged
abbrev pub flipped : Op → Op
flipped IsEqual = IsEqual
flipped IsUnequal = IsUnequal
flipped IsBelow = IsAbove
flipped IsAtMost = IsAtLeast
flipped IsAbove = IsBelow
flipped IsAtLeast = IsAtMost

-- what `column op key` says of the column
abbrev pub kind_of : Op → KeyExpr → Option TermKind
kind_of IsEqual key = Some (Equals key)
kind_of IsUnequal key = None
kind_of IsBelow key = Some (High key false)
kind_of IsAtMost key = Some (High key true)
kind_of IsAbove key = Some (Low key false)
kind_of IsAtLeast key = Some (Low key true)

-- one side is the column, which the comparison does not convert, and the other names no column of
-- the item
pub record SideServes (item : ℕ) (site : Site) (kind : TermKind) (op : Op) (own other : BExpr)
    (own_conversion other_conversion : Option Affinity) : Type 0
  where
    pub is_column : bare_column own ≡ Some (record { item = item; site = site })
    pub unconverted : own_conversion ≡ None
    pub foreign : AllByRecursion (λ i. i ≢ item) (names other)
    pub says : kind_of op (record { expr = other; conversion = other_conversion }) ≡ Some kind

abbrev pub entry_keys : Option Affinity → BExprs → List KeyExpr
entry_keys conversion Nil = []
entry_keys conversion (More e es) =
    record { expr = e; conversion = conversion } ∷ entry_keys conversion es

-- a comparison serves the column on either side of it
abbrev pub ComparisonServes : ℕ → Site → Collation → TermKind → BExpr → Type 0
ComparisonServes item site collation kind (Cmp op left right left_conversion right_conversion c) =
    (c ≡ collation)
    × (SideServes item site kind op left right left_conversion right_conversion
    ⊎ SideServes item site kind (flipped op) right left right_conversion left_conversion)
ComparisonServes item site collation kind e = ⊥

-- each branch is an `=` that serves this column under this collation
abbrev pub AreEqualities : ℕ → Site → Collation → BExprs → List KeyExpr → Type 0
AreEqualities item site collation Nil [] = Unit {0}
AreEqualities item site collation Nil (key ∷ keys) = ⊥
AreEqualities item site collation (More e es) [] = ⊥
AreEqualities item site collation (More e es) (key ∷ keys) =
    ComparisonServes item site collation (Equals key) e × AreEqualities item site collation es keys

pub record ListServes (item : ℕ) (site : Site) (kind : TermKind) (own : BExpr) (entries : BExprs)
    (entry_conversion : Option Affinity) : Type 0
  where
    pub is_column : bare_column own ≡ Some (record { item = item; site = site })
    pub foreign : AllByRecursion (λ i. i ≢ item) (all_names entries)
    pub says : kind ≡ Within (entry_keys entry_conversion entries)

-- the OR of these equalities is an IN over their other sides, each with its own conversion
pub record OrServes (item : ℕ) (site : Site) (collation : Collation) (kind : TermKind)
    (es : BExprs) : Type 0
  where
    pub keys : List KeyExpr
    pub some : keys ≢ []
    pub equalities : AreEqualities item site collation es keys
    pub says : kind ≡ Within keys

-- the conjunct serves a column of the item: it is a comparison, an IN list, IS NULL, or an OR list
-- of equalities of one column under one collation
abbrev pub Serves : ℕ → Site → Collation → TermKind → BExpr → Type 0
Serves item site collation kind (Cmp op left right left_conversion right_conversion c) =
    ComparisonServes item site collation kind (Cmp op left right left_conversion right_conversion c)
Serves item site collation kind (OneOf negated own entries entry_conversion c) =
    (negated ≡ false) × (c ≡ collation) × ListServes item site kind own entries entry_conversion
Serves item site collation kind (IsNull negated own) =
    (negated ≡ false) × (bare_column own ≡ Some (record { item = item; site = site }))
    × (kind ≡ IsNothing)
Serves item site collation kind (Any es) = OrServes item site collation kind es
Serves item site collation kind e = ⊥

-- the column is the rowid, or its alias
abbrev pub IsRowid : Option ℕ → Site → Type 0
IsRowid alias AtRowid = Unit {0}
IsRowid alias (AtColumn column) = alias ≡ Some column

-- a term may be used for a sorted column of its collation; IS NULL, and a term on the rowid, may be
-- used whatever the collation is
abbrev pub MayUse : Option ℕ → SortColumn → Term → Type 0
MayUse alias s t =
    ((t.column ≡ s.site) × ((t.collation ≡ s.collation) ⊎ (t.kind ≡ IsNothing)))
    ⊎ ((t.column ≡ AtRowid) × IsRowid alias s.site)

abbrev pub part_of : TermKind → Option EqPart
part_of (Equals key) = Some (OneKey key)
part_of (Within keys) = Some (ManyKeys keys)
part_of IsNothing = Some NullKey
part_of (Low key inclusive) = None
part_of (High key inclusive) = None

-- the one term whose key the edge is, or none where there is no edge
abbrev pub EdgeFrom : (KeyExpr → Bool → TermKind) → Option ℕ → SortColumn → Option Edge → List Term
    → Type 0
EdgeFrom kind alias s None ts = ts ≡ []
EdgeFrom kind alias s (Some e) ts =
    (t : Term) × (ts ≡ t ∷ []) × MayUse alias s t × (t.kind ≡ kind e.key e.inclusive)

abbrev pub LowFrom : Option ℕ → SortColumn → Option Edge → List Term → Type 0
LowFrom = EdgeFrom Low

abbrev pub HighFrom : Option ℕ → SortColumn → Option Edge → List Term → Type 0
HighFrom = EdgeFrom High

-- these are the terms whose keys the parts and bounds are: a part on each of the first columns,
-- then the bounds on the next
abbrev pub Carries : Option ℕ → List SortColumn → List EqPart → Option Edge → Option Edge
    → List Term → Type 0
Carries alias [] eqs low high ts = ts ≡ []
Carries alias (s ∷ ss) [] low high ts =
    (lows highs : List Term) × (ts ≡ lows ++ highs) × LowFrom alias s low lows
    × HighFrom alias s high highs
Carries alias (s ∷ ss) (p ∷ ps) low high [] = ⊥
Carries alias (s ∷ ss) (p ∷ ps) low high (t ∷ ts) =
    MayUse alias s t × (part_of t.kind ≡ Some p) × Carries alias ss ps low high ts

abbrev pub FormCarries : Option ℕ → SeekForm → List Term → Type 0
FormCarries alias f ts = Carries alias f.columns f.eqs f.low f.high ts
