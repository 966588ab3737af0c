-- What a term says: as much as its conjunct, or no more than all conjuncts.
use Rattle.std.specs.Prelude.{◌≡◌, ◌≢◌, ℕ, true, List, [], ◌∷◌, ◌⊎◌, Some, None, false, slice_get}
use Rattle.std.specs.Prelude.{slice_index_or}
use Rattle.std.specs.List.{AllByRecursion, filter}
use Rattle.list_laws.specs.Order.{RisesStrictly}
use Rattle.sql_meaning.specs.Values.{Value, Collation}
use Rattle.sql_meaning.specs.Rows.{Row, Assignment, Site, cell}
use Rattle.sql_meaning.specs.Expressions.{BExpr, BExprs, Nil, More, Any, ColumnRef, IsEqual}
use Rattle.sql_meaning.specs.Evaluation.{holds, compares}
use Rattle.sql_meaning.specs.Schemas.{Schema, ConformsTo}
use Rattle.sql_meaning.specs.Items.{Item, FitsExpr, own_column}
use Rattle.sql_meaning.specs.Terms.{Term, TermKind, Serves, kind_holds, term_holds, IsNothing}
use Rattle.sql_meaning.specs.Links.{Linked, Derives}
use Rattle.sql_meaning.specs.LikeTerms.{like_terms}
use Rattle.sql_meaning.specs.Statements.{Bound, FitsStatement, exprs_of, chosen_hold, table_of}
use Rattle.sql_meaning.specs.Statements.{Conjunct}
use Rattle.sql_meaning.specs.Conjuncts.{may_derive, may_serve}
use Rattle.sql_meaning.specs.Choices.{ColumnTerms}
use Rattle.sql_meaning.specs.Serving.{Served, serving}
use Rattle.sql_meaning.specs.TermLists.{has_ref, linked_to, same_ref, OrTerm, or_terms}
use Rattle.sql_meaning.specs.TermLists.{branch_terms, ref_cmp}

-- a conjunct that serves a column is true exactly where its term is true of the column
abbrev pub TermsSayTheirConjuncts : Type 0
TermsSayTheirConjuncts =
    (item : ℕ) (site : Site) (collation : Collation) (kind : TermKind) (e : BExpr)
    → Serves item site collation kind e → (env : Assignment) (params : List Value)
    → holds env params e ≡ kind_holds env params collation kind (cell env item site)

-- the function finds the column and what is said of it; for IS NULL any collation will do
pub record FindsTheTerm (own : Site → Collation) (item : ℕ) (site : Site) (collation : Collation)
    (kind : TermKind) (e : BExpr) : Type 0
  where
    pub served : Served
    pub is : serving own item e ≡ Some served
    pub same_column : served.site ≡ site
    pub same_kind : served.kind ≡ kind
    pub same_order : (served.collation ≡ collation) ⊎ (kind ≡ IsNothing)

-- what the function answers serves the column, and wherever a conjunct serves, the function answers
abbrev pub ServingIsExact : Type 0
ServingIsExact =
    (own : Site → Collation) (item : ℕ) (e : BExpr)
    → ((s : Served) → serving own item e ≡ Some s → Serves item s.site s.collation s.kind e)
    × ((site : Site) (collation : Collation) (kind : TermKind) → Serves item site collation kind e
    → FindsTheTerm own item site collation kind e)

-- where conjuncts hold, the columns that they link are equal by their own collation
abbrev pub LinkedColumnsAreEqual : Type 0
LinkedColumnsAreEqual =
    (schema : Schema) (items : List Item) (es : List BExpr)
    → AllByRecursion (FitsExpr schema items) es
    → (c d : ColumnRef) → Linked schema items es c d → (env : Assignment) (params : List Value)
    → AllByRecursion (λ e. holds env params e ≡ true) es
    → compares IsEqual (own_column schema items c).collation (cell env c.item c.site)
    (cell env d.item d.site) ≡ true

-- the listed columns are just those that the conjuncts link with the column, without itself; they
-- rise by item and column, so each is listed once
abbrev pub ListsHaveTheLinkedColumns : Type 0
ListsHaveTheLinkedColumns =
    (schema : Schema) (items : List Item) (es : List BExpr) (c : ColumnRef)
    → RisesStrictly ref_cmp (linked_to schema items es c)
    × AllByRecursion (Linked schema items es c) (linked_to schema items es c)
    × ((d : ColumnRef) → Linked schema items es c d → same_ref d c ≡ false
    → has_ref d (linked_to schema items es c) ≡ true)

-- on a row of a database, where a LIKE holds, so do the bounds that follow from it
abbrev pub LikeTermsHold : Type 0
LikeTermsHold =
    (schema : Schema) (items : List Item) (item : ℕ) (e : BExpr) (env : Assignment)
    (params : List Value) (row : Row)
    → ConformsTo (slice_get schema.tables (table_of (slice_get items item))) row
    → slice_index_or env item None ≡ Some (Some row) → holds env params e ≡ true
    → AllByRecursion (λ t. (t.conjunct ≡ None) × (term_holds env params item t ≡ true))
    (like_terms schema items item e)

-- where all conjuncts hold that may derive terms for the item, each derived term holds
abbrev pub DerivedTermsHold : Type 0
DerivedTermsHold =
    (schema : Schema) (bound : Bound) (item : ℕ) (t : Term) → FitsStatement schema bound
    → Derives schema bound.items (exprs_of (filter (may_derive bound item) bound.conjuncts)) item t
    → (env : Assignment) (params : List Value)
    → chosen_hold (may_derive bound item) params bound.conjuncts env ≡ true
    → term_holds env params item t ≡ true

-- for each branch its terms, of which there are some
abbrev pub AreTermsOfBranches : Schema → Bound → Conjunct → ℕ → ℕ → BExprs
    → List (List ColumnTerms) → Type 0
AreTermsOfBranches schema bound c item number Nil [] = Unit {0}
AreTermsOfBranches schema bound c item number Nil (columns ∷ others) = ⊥
AreTermsOfBranches schema bound c item number (More e es) [] = ⊥
AreTermsOfBranches schema bound c item number (More e es) (columns ∷ others) =
    (columns ≡ branch_terms schema bound c item number e) × (columns ≢ [])
    × AreTermsOfBranches schema bound c item number es others

-- an OR term is of an OR conjunct that may serve the item, and has the terms of its branches
pub record IsListedOr (schema : Schema) (bound : Bound) (item : ℕ) (o : OrTerm) : Type 0 where
  pub conjunct : Conjunct
  pub branches : BExprs
  pub is : slice_get bound.conjuncts o.conjunct ≡ Some conjunct
  pub allowed : may_serve bound item conjunct ≡ true
  pub any : conjunct.expr ≡ Any branches
  pub terms : AreTermsOfBranches schema bound conjunct item o.conjunct branches o.branches

abbrev pub OrTermsAreOfConjuncts : Type 0
OrTermsAreOfConjuncts =
    (schema : Schema) (bound : Bound) (item : ℕ)
    → AllByRecursion (IsListedOr schema bound item) (or_terms schema bound item)
