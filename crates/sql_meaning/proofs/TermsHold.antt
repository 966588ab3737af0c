-- Where the conjuncts hold, so do the terms that a path uses.
use Rattle.std.specs.List.{AllByRecursion, filter, slice_get}
use Rattle.std.proofs.Common.{◌≡◌, Bool, true, false, ◌&&◌, refl, ℕ, ◌||◌, List, ◌∷◌, None, [], ap}
use Rattle.std.proofs.Common.{ap₂, cond, ◌∙◌, Option, Some, sym, ◌++◌, not, suc, zero, subst, inl}
use Rattle.std.proofs.Common.{inr}
use Rattle.list_laws.proofs.Bools.{and_none, and_left, and_right, both_true, or_first}
use Rattle.list_laws.proofs.Bools.{and_assoc}
use Rattle.list_laws.proofs.Lists.{all_append}
use Rattle.sql_meaning.specs.Statements.{Conjunct, chosen_hold, exprs_of, Bound, FitsStatement}
use Rattle.sql_meaning.specs.Values.{Value}
use Rattle.sql_meaning.specs.Rows.{Assignment}
use Rattle.sql_meaning.specs.Expressions.{BExpr}
use Rattle.sql_meaning.specs.Expressions.{All, BExprs, Nil, More, flat}
use Rattle.sql_meaning.specs.Expressions.{flat_all}
use Rattle.sql_meaning.specs.Evaluation.{holds, and3, is_true, all3, evs, any3}
use Rattle.sql_meaning.specs.Terms.{Term, term_holds}
use Rattle.sql_meaning.specs.UsedTerms.{Used, AllOf, AnyOf}
use Rattle.sql_meaning.specs.UsedTerms.{IsTerm, IsBranchTerm, AreBranchTerms, IsOrTerm, UsedComes}
use Rattle.sql_meaning.specs.UsedTerms.{Consumes}
use Rattle.sql_meaning.specs.Schemas.{Schema}
use Rattle.sql_meaning.specs.Items.{Item, FitsExpr, FitsExprs}
use Rattle.sql_meaning.specs.Conjuncts.{may_serve, may_derive}
use Rattle.sql_meaning.proofs.Terms.{truth_again, some_is, serves_is, or3_true}
use Rattle.sql_meaning.proofs.Links.{derived_holds, all_at}
use Rattle.sql_meaning.specs.LikeTerms.{like_terms}
use Rattle.sql_meaning.proofs.LikeTerms.{term_passes, Passes, like_passes}
use Rattle.sql_meaning.proofs.PassingTerms.{all_pass, any_pass, used_pass, used_passes}

-- a condition holds exactly where each member of its flattened AND list holds
abbrev pub all_hold_of : Assignment → List Value → List BExpr → Bool
all_hold_of env params [] = true
all_hold_of env params (e ∷ es) = holds env params e && all_hold_of env params es

and3_true : (a b : Option Bool) → is_true (and3 a b) ≡ (is_true a && is_true b)
and3_true (Some true) b = refl
and3_true (Some false) b = refl
and3_true None (Some true) = refl
and3_true None (Some false) = refl
and3_true None None = refl

all-append : (env : Assignment) (params : List Value) (xs ys : List BExpr)
    → all_hold_of env params (xs ++ ys) ≡ (all_hold_of env params xs && all_hold_of env params ys)
all-append env params [] ys = refl
all-append env params (x ∷ xs) ys =
    rw (all-append env params xs ys)
    (and_assoc (holds env params x) (all_hold_of env params xs) (all_hold_of env params ys))

mutual
  pub flat_holds : (env : Assignment) (params : List Value) (e : BExpr)
      → all_hold_of env params (flat e) ≡ holds env params e
  flat_holds env params (All es) = flat_all_hold env params es ∙ sym (ap is_true (truth_again _))
  flat_holds env params e = and_none _

  flat_all_hold : (env : Assignment) (params : List Value) (es : BExprs)
      → all_hold_of env params (flat_all es) ≡ is_true (all3 (evs env params es))
  flat_all_hold env params Nil = refl
  flat_all_hold env params (More e es) =
      all-append env params (flat e) (flat_all es)
      ∙ ap₂ (λ x y. x && y) (flat_holds env params e) (flat_all_hold env params es)
      ∙ sym (and3_true _ (all3 (evs env params es)))

all_from_flat : (env : Assignment) (params : List Value) (es : List BExpr)
    → all_hold_of env params es ≡ true → AllByRecursion (λ e. holds env params e ≡ true) es
all_from_flat env params [] h = tt
all_from_flat env params (e ∷ es) h =
    (and_left _ _ h, all_from_flat env params es (and_right (holds env params e) _ h))

pub unless : (c h r : Bool) → ((not c || h) && r) ≡ true → c ≡ true → h ≡ true
unless true h r e t = and_left h r e
unless false h r e t = absurd (cc)

pub rest_of : (c h r : Bool) → ((not c || h) && r) ≡ true → r ≡ true
rest_of c h r e = and_right (not c || h) r e

-- a chosen conjunct holds where all chosen ones do
pub chosen_at : (chosen : Conjunct → Bool) (params : List Value) (cs : List Conjunct)
    (env : Assignment) (number : ℕ) (c : Conjunct)
    → chosen_hold chosen params cs env ≡ true → slice_get cs number ≡ Some c → chosen c ≡ true
    → holds env params c.expr ≡ true
chosen_at chosen params [] env number c h e t = absurd (cc)
chosen_at chosen params (d ∷ cs) env zero c h e t =
    let is = some_is d c e in
    subst (λ (z : Conjunct). holds env params z.expr ≡ true) is
    (unless (chosen d) (holds env params d.expr) _ h (ap chosen is ∙ t))
chosen_at chosen params (d ∷ cs) env (suc number) c h e t =
    chosen_at chosen params cs env number c (rest_of (chosen d) (holds env params d.expr) _ h) e t

filtered_case : (chosen : Conjunct → Bool) (env : Assignment) (params : List Value) (c : Conjunct)
    (cs : List Conjunct)
    → AllByRecursion (λ e. holds env params e ≡ true) (exprs_of (filter chosen cs)) → (b : Bool)
    → (b ≡ true → holds env params c.expr ≡ true)
    → AllByRecursion (λ e. holds env params e ≡ true)
    (exprs_of (cond b (c ∷ filter chosen cs) (filter chosen cs)))
filtered_case chosen env params c cs h true k = (k refl, h)
filtered_case chosen env params c cs h false k = h

pub chosen_all : (chosen : Conjunct → Bool) (params : List Value) (cs : List Conjunct)
    (env : Assignment)
    → chosen_hold chosen params cs env ≡ true
    → AllByRecursion (λ e. holds env params e ≡ true) (exprs_of (filter chosen cs))
chosen_all chosen params [] env h = tt
chosen_all chosen params (c ∷ cs) env h =
    filtered_case chosen env params c cs
    (chosen_all chosen params cs env (rest_of (chosen c) (holds env params c.expr) _ h)) (chosen c)
    (unless (chosen c) (holds env params c.expr) _ h)

fits_case : (schema : Schema) (items : List Item) (chosen : Conjunct → Bool) (c : Conjunct)
    (cs : List Conjunct) (b : Bool)
    → FitsExpr schema items c.expr
    → AllByRecursion (FitsExpr schema items) (exprs_of (filter chosen cs))
    → AllByRecursion (FitsExpr schema items)
    (exprs_of (cond b (c ∷ filter chosen cs) (filter chosen cs)))
fits_case schema items chosen c cs true f h = (f, h)
fits_case schema items chosen c cs false f h = h

pub fits_filter : (schema : Schema) (items : List Item) (chosen : Conjunct → Bool)
    (cs : List Conjunct)
    → AllByRecursion (λ c. FitsExpr schema items c.expr) cs
    → AllByRecursion (FitsExpr schema items) (exprs_of (filter chosen cs))
fits_filter schema items chosen [] h = tt
fits_filter schema items chosen (c ∷ cs) h =
    fits_case schema items chosen c cs (chosen c) h.0 (fits_filter schema items chosen cs h.1)

mutual
  flat_fits : (schema : Schema) (items : List Item) (e : BExpr) → FitsExpr schema items e
      → AllByRecursion (FitsExpr schema items) (flat e)
  flat_fits schema items (All es) f = flat_all_fit schema items es f
  flat_fits schema items e f = (f, tt)

  flat_all_fit : (schema : Schema) (items : List Item) (es : BExprs) → FitsExprs schema items es
      → AllByRecursion (FitsExpr schema items) (flat_all es)
  flat_all_fit schema items Nil f = tt
  flat_all_fit schema items (More e es) f =
      all_append (FitsExpr schema items) (flat e) (flat_all es) (flat_fits schema items e f.0)
      (flat_all_fit schema items es f.1)

-- each used term holds where the conjuncts do that may serve the item and that may derive terms for
-- it
term_from : (schema : Schema) (bound : Bound) (params : List Value) (item : ℕ) (env : Assignment)
    → FitsStatement schema bound
    → chosen_hold (may_serve bound item) params bound.conjuncts env ≡ true
    → chosen_hold (may_derive bound item) params bound.conjuncts env ≡ true → (t : Term)
    → IsTerm schema bound item t → term_passes schema bound.items params item env t ≡ true
term_from schema bound params item env g h k t (inl d) =
    or_first (term_holds env params item t) _
    (sym (serves_is env params item t.column t.collation t.kind d.conjunct.expr d.serves)
    ∙ chosen_at
    (may_serve bound item) params bound.conjuncts env d.number d.conjunct h d.is d.allowed)
term_from schema bound params item env g h k t (inr (none, inl d)) =
    or_first (term_holds env params item t) _
    (derived_holds schema bound.items
    (exprs_of (filter (may_derive bound item) bound.conjuncts)) env params
    (fits_filter schema bound.items (may_derive bound item) bound.conjuncts g)
    (chosen_all (may_derive bound item) params bound.conjuncts env k) item t d)
term_from schema bound params item env g h k t (inr (none, inr d)) =
    (all_at (Passes schema bound.items params item env)
    (like_terms schema bound.items item d.conjunct.expr) d.at t
    (like_passes schema bound.items params item env d.conjunct.expr
    (chosen_at
    (may_serve bound item) params bound.conjuncts env d.number d.conjunct h d.is d.allowed))
    d.listed).1

terms_from : (schema : Schema) (bound : Bound) (params : List Value) (item : ℕ) (env : Assignment)
    → FitsStatement schema bound
    → chosen_hold (may_serve bound item) params bound.conjuncts env ≡ true
    → chosen_hold (may_derive bound item) params bound.conjuncts env ≡ true → (ts : List Term)
    → AllByRecursion (IsTerm schema bound item) ts
    → all_pass (term_passes schema bound.items params item env) ts ≡ true
terms_from schema bound params item env g h k [] c = refl
terms_from schema bound params item env g h k (t ∷ ts) c =
    both_true _ _ (term_from schema bound params item env g h k t c.0)
    (terms_from schema bound params item env g h k ts c.1)

branch_term : (schema : Schema) (bound : Bound) (params : List Value) (c : Conjunct) (item : ℕ)
    (env : Assignment) (es : List BExpr)
    → AllByRecursion (FitsExpr schema bound.items) es
    → AllByRecursion (λ e. holds env params e ≡ true) es → (t : Term)
    → IsBranchTerm schema bound c item es t
    → term_passes schema bound.items params item env t ≡ true
branch_term schema bound params c item env es g h t (inl d) =
    or_first (term_holds env params item t) _
    (sym (serves_is env params item t.column t.collation t.kind d.1 d.3)
    ∙ all_at (λ e. holds env params e ≡ true) es d.0 d.1 h d.2)
branch_term schema bound params c item env es g h t (inr (inl (may, d))) =
    or_first (term_holds env params item t) _
    (derived_holds schema bound.items es env params g h item t d)
branch_term schema bound params c item env es g h t (inr (inr d)) =
    (all_at (Passes schema bound.items params item env) (like_terms schema bound.items item d.2) d.1
    t
    (like_passes schema bound.items params item env d.2
    (all_at (λ e. holds env params e ≡ true) es d.0 d.2 h d.3)) d.4).1

branch_terms : (schema : Schema) (bound : Bound) (params : List Value) (c : Conjunct) (item : ℕ)
    (env : Assignment) (es : List BExpr)
    → AllByRecursion (FitsExpr schema bound.items) es
    → AllByRecursion (λ e. holds env params e ≡ true) es → (ts : List Term)
    → AllByRecursion (IsBranchTerm schema bound c item es) ts
    → all_pass (term_passes schema bound.items params item env) ts ≡ true
branch_terms schema bound params c item env es g h [] k = refl
branch_terms schema bound params c item env es g h (t ∷ ts) k =
    both_true _ _ (branch_term schema bound params c item env es g h t k.0)
    (branch_terms schema bound params c item env es g h ts k.1)

or_either : (a b x y : Bool) → (a ≡ true → x ≡ true) → (b ≡ true → y ≡ true) → (a || b) ≡ true
    → (x || y) ≡ true
or_either true b x y f g h = rw (f refl) refl
or_either false b true y f g h = refl
or_either false b false y f g h = g h

-- where an OR condition holds, all terms of some branch hold
branches_from : (schema : Schema) (bound : Bound) (params : List Value) (c : Conjunct) (item : ℕ)
    (env : Assignment) (es : BExprs) (tss : List (List Term))
    → FitsExprs schema bound.items es → AreBranchTerms schema bound c item es tss
    → is_true (any3 (evs env params es)) ≡ true
    → any_pass (term_passes schema bound.items params item env) tss ≡ true
branches_from schema bound params c item env Nil [] g k h = absurd (cc)
branches_from schema bound params c item env Nil (ts ∷ tss) g k h = absurd k
branches_from schema bound params c item env (More e es) [] g k h = absurd k
branches_from schema bound params c item env (More e es) (ts ∷ tss) g k h =
    or_either (holds env params e) (is_true (any3 (evs env params es))) _ _
    (λ t. branch_terms schema bound params c item env (flat e) (flat_fits schema bound.items e g.0)
    (all_from_flat env params (flat e) (flat_holds env params e ∙ t)) ts k.0)
    (λ t. branches_from schema bound params c item env es tss g.1 k.1 t)
    (sym (or3_true _ (any3 (evs env params es))) ∙ h)

-- where an OR holds, for whatever rows of the items that aren't placed, some branch's terms hold
pub or_holds : (schema : Schema) (bound : Bound) (params : List Value) (item : ℕ) (env : Assignment)
    (tss : List (List Term)) (o : IsOrTerm schema bound item tss)
    → FitsStatement schema bound → holds env params o.conjunct.expr ≡ true
    → any_pass (term_passes schema bound.items params item env) tss ≡ true
or_holds schema bound params item env tss o g h =
    branches_from schema bound params o.conjunct item env o.branches tss
    (subst (FitsExpr schema bound.items) o.any
    (all_at (λ c. FitsExpr schema bound.items c.expr) bound.conjuncts o.number o.conjunct g o.is))
    o.terms
    (sym (ap is_true (truth_again _)) ∙ subst (λ (e : BExpr). holds env params e ≡ true) o.any h)

-- no row that could be part of an answer is dropped by a walk
pub used_from : (schema : Schema) (bound : Bound) (params : List Value) (item : ℕ)
    (env : Assignment) (used : Used)
    → FitsStatement schema bound → UsedComes schema bound item used
    → chosen_hold (may_serve bound item) params bound.conjuncts env ≡ true
    → chosen_hold (may_derive bound item) params bound.conjuncts env ≡ true
    → used_passes schema bound params item used env ≡ true
used_from schema bound params item env (AllOf ts) g c h k =
    terms_from schema bound params item env g h k ts c
used_from schema bound params item env (AnyOf tss) g c h k =
    or_holds schema bound params item env tss c g
    (chosen_at
    (may_serve bound item) params bound.conjuncts env c.number c.conjunct h c.is c.allowed)

term_at : (test : Term → Bool) (ts : List Term) (k : ℕ) (t : Term)
    → all_pass test ts ≡ true → slice_get ts k ≡ Some t → test t ≡ true
term_at test [] k t h e = absurd (cc)
term_at test (u ∷ ts) zero t h e =
    subst (λ (z : Term). test z ≡ true) (some_is u t e) (and_left _ _ h)
term_at test (u ∷ ts) (suc k) t h e = term_at test ts k t (and_right (test u) _ h) e

consumed_term : (schema : Schema) (bound : Bound) (params : List Value) (item : ℕ)
    (env : Assignment) (number : ℕ) (t : Term)
    → IsTerm schema bound item t → t.conjunct ≡ Some number → term_holds env params item t ≡ true
    → (c : Conjunct) × (slice_get bound.conjuncts number ≡ Some c) × (may_serve bound item c ≡ true)
    × (holds env params c.expr ≡ true)
consumed_term schema bound params item env number t (inl d) e h =
    let same : d.number ≡ number = some_is _ _ (sym d.numbered ∙ e) in (
      d.conjunct,
      ap (slice_get bound.conjuncts) (sym same)
          ∙ d.is,
      d.allowed,
      serves_is env params item t.column t.collation t.kind d.conjunct.expr d.serves
          ∙ h,
    )
consumed_term schema bound params item env number t (inr (none, d)) e h =
    absurd (let no : None ≡ Some number = sym none ∙ e in cc)

-- each consumed conjunct holds where the used terms pass a test that direct terms pass only where
-- they hold
pub consumed_holds : (schema : Schema) (bound : Bound) (params : List Value) (item : ℕ)
    (env : Assignment) (test : Term → Bool)
    → ((t : Term) (number : ℕ) → t.conjunct ≡ Some number → test t ≡ true
    → term_holds env params item t ≡ true)
    → (used : Used) (number : ℕ) → UsedComes schema bound item used → Consumes used number
    → used_pass test used ≡ true → (c : Conjunct)
    × (slice_get bound.conjuncts number ≡ Some c) × (may_serve bound item c ≡ true)
    × (holds env params c.expr ≡ true)
consumed_holds schema bound params item env test sure (AllOf ts) number c k h =
    consumed_term schema bound params item env number k.1
    (all_at (IsTerm schema bound item) ts k.0 k.1 c k.2) k.3
    (sure k.1 number k.3 (term_at test ts k.0 k.1 h k.2))
consumed_holds schema bound params item env test sure (AnyOf tss) number c k h = absurd k
