-- The terms that a path uses, where they come from, and what the path consumes.
use Rattle.std.specs.Prelude.{List, ℕ, Bool, true, ◌&&◌, [], ◌∷◌, false, ◌||◌, ◌≡◌, Option, Some}
use Rattle.std.specs.Prelude.{slice_get, ◌⊎◌, None}
use Rattle.std.specs.List.{AllByRecursion, filter}
use Rattle.sql_meaning.specs.Terms.{Term, term_holds, FormCarries, term_keys, Serves}
use Rattle.sql_meaning.specs.Values.{Value}
use Rattle.sql_meaning.specs.Rows.{Assignment}
use Rattle.sql_meaning.specs.Schemas.{Schema}
use Rattle.sql_meaning.specs.Paths.{Paths, Nowhere, Then, form_of, is_union, Path, Union}
use Rattle.sql_meaning.specs.Expressions.{names, BExpr, BExprs, Nil, More, flat, Any}
use Rattle.sql_meaning.specs.Paths.{KeyExpr}
use Rattle.sql_meaning.specs.Statements.{all_in, Conjunct, Bound, exprs_of}
use Rattle.sql_meaning.specs.Conjuncts.{may_serve, may_derive}
use Rattle.sql_meaning.specs.Links.{Derives}
use Rattle.sql_meaning.specs.LikeTerms.{like_terms}

-- the terms whose keys a path carries; of a union, those of each branch
pub data Used : Type 0 where
  AllOf : (ts : List Term) → Used
  AnyOf : (tss : List (List Term)) → Used

abbrev pub all_terms : Assignment → List Value → ℕ → List Term → Bool
all_terms env params item [] = true
all_terms env params item (t ∷ ts) = term_holds env params item t && all_terms env params item ts

abbrev pub any_terms : Assignment → List Value → ℕ → List (List Term) → Bool
any_terms env params item [] = false
any_terms env params item (ts ∷ tss) = all_terms env params item ts || any_terms env params item tss

-- a branch of a union is no union
abbrev pub BranchesCarry : Schema → Option ℕ → Paths → List (List Term) → Type 0
BranchesCarry schema alias Nowhere [] = Unit {0}
BranchesCarry schema alias Nowhere (ts ∷ tss) = ⊥
BranchesCarry schema alias (Then p ps) [] = ⊥
BranchesCarry schema alias (Then p ps) (ts ∷ tss) =
    (is_union p ≡ false) × FormCarries alias (form_of schema p) ts
    × BranchesCarry schema alias ps tss

-- these are the terms whose keys the path carries, column by column
abbrev pub PathCarries : Schema → Option ℕ → Path → Used → Type 0
PathCarries schema alias (Union ps) (AllOf ts) = ⊥
PathCarries schema alias (Union ps) (AnyOf tss) = BranchesCarry schema alias ps tss
PathCarries schema alias path (AllOf ts) = FormCarries alias (form_of schema path) ts
PathCarries schema alias path (AnyOf tss) = ⊥

-- a term may be used where the items that its key names are placed
abbrev pub keys_in : List ℕ → List KeyExpr → Bool
keys_in placed [] = true
keys_in placed (k ∷ ks) = all_in (names k.expr) placed && keys_in placed ks

abbrev pub is_usable : List ℕ → Term → Bool
is_usable placed t = keys_in placed (term_keys t.kind)

abbrev pub AreUsable : List ℕ → List Term → Type 0
AreUsable placed ts = AllByRecursion (λ t. is_usable placed t ≡ true) ts

abbrev pub UsedPlaced : List ℕ → Used → Type 0
UsedPlaced placed (AllOf ts) = AreUsable placed ts
UsedPlaced placed (AnyOf tss) = AllByRecursion (AreUsable placed) tss

-- a term that a conjunct serves, where this conjunct may serve the item
pub record IsDirect (bound : Bound) (item : ℕ) (t : Term) : Type 0 where
  pub number : ℕ
  pub conjunct : Conjunct
  pub is : slice_get bound.conjuncts number ≡ Some conjunct
  pub allowed : may_serve bound item conjunct ≡ true
  pub serves : Serves item t.column t.collation t.kind conjunct.expr
  pub numbered : t.conjunct ≡ Some number

-- a bound that follows from a LIKE, where this conjunct may serve the item
pub record IsLikeTerm (schema : Schema) (bound : Bound) (item : ℕ) (t : Term) : Type 0 where
  pub number : ℕ
  pub conjunct : Conjunct
  pub is : slice_get bound.conjuncts number ≡ Some conjunct
  pub allowed : may_serve bound item conjunct ≡ true
  pub at : ℕ
  pub listed : slice_get (like_terms schema bound.items item conjunct.expr) at ≡ Some t

-- each term of an item is a direct one, or has no conjunct: it follows from common conjuncts or
-- from a LIKE
abbrev pub IsTerm : Schema → Bound → ℕ → Term → Type 0
IsTerm schema bound item t =
    IsDirect bound item t
    ⊎ ((t.conjunct ≡ None)
    × (Derives schema bound.items (exprs_of (filter (may_derive bound item) bound.conjuncts)) item t
    ⊎ IsLikeTerm schema bound item t))

-- a term of a branch of an OR: the branch is a conjunct list of its own
abbrev pub IsBranchTerm : Schema → Bound → Conjunct → ℕ → List BExpr → Term → Type 0
IsBranchTerm schema bound c item es t =
    ((number : ℕ) × (e : BExpr) × (slice_get es number ≡ Some e)
    × Serves item t.column t.collation t.kind e)
    ⊎ (((may_derive bound item c ≡ true) × Derives schema bound.items es item t)
    ⊎ ((number at : ℕ) × (e : BExpr) × (slice_get es number ≡ Some e)
    × (slice_get (like_terms schema bound.items item e) at ≡ Some t)))

-- the terms of each branch come from the conjuncts of that branch alone
abbrev pub AreBranchTerms : Schema → Bound → Conjunct → ℕ → BExprs → List (List Term) → Type 0
AreBranchTerms schema bound c item Nil [] = Unit {0}
AreBranchTerms schema bound c item Nil (ts ∷ tss) = ⊥
AreBranchTerms schema bound c item (More e es) [] = ⊥
AreBranchTerms schema bound c item (More e es) (ts ∷ tss) =
    AllByRecursion (IsBranchTerm schema bound c item (flat e)) ts
    × AreBranchTerms schema bound c item es tss

-- an OR that may serve the item, with terms for each of its branches
pub record IsOrTerm (schema : Schema) (bound : Bound) (item : ℕ) (tss : List (List Term)) : Type 0
  where
    pub number : ℕ
    pub conjunct : Conjunct
    pub branches : BExprs
    pub is : slice_get bound.conjuncts number ≡ Some conjunct
    pub allowed : may_serve bound item conjunct ≡ true
    pub any : conjunct.expr ≡ Any branches
    pub terms : AreBranchTerms schema bound conjunct item branches tss

-- the terms of a path are terms of its item, or of the branches of one OR
abbrev pub UsedComes : Schema → Bound → ℕ → Used → Type 0
UsedComes schema bound item (AllOf ts) = AllByRecursion (IsTerm schema bound item) ts
UsedComes schema bound item (AnyOf tss) = IsOrTerm schema bound item tss

-- a path consumes the conjuncts whose direct terms it uses; a term that follows consumes nothing,
-- nor does a union
abbrev pub Consumes : Used → ℕ → Type 0
Consumes (AllOf ts) number =
    (k : ℕ) × (t : Term) × (slice_get ts k ≡ Some t) × (t.conjunct ≡ Some number)
Consumes (AnyOf tss) number = ⊥
