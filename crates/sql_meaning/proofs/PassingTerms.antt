-- Used terms under a test of each term.
use Rattle.std.specs.List.{AllByRecursion}
use Rattle.std.proofs.Common.{◌≡◌, ℕ, Bool, true, false, ◌&&◌, ◌||◌, List, [], ◌∷◌, refl, ap₂}
use Rattle.std.proofs.Common.{ap}
use Rattle.sql_meaning.specs.Values.{Value}
use Rattle.sql_meaning.specs.Rows.{Assignment}
use Rattle.sql_meaning.specs.Schemas.{Schema}
use Rattle.sql_meaning.specs.Statements.{Bound}
use Rattle.sql_meaning.specs.Terms.{Term, term_holds}
use Rattle.sql_meaning.specs.UsedTerms.{Used, AllOf, AnyOf, all_terms, any_terms, is_usable}
use Rattle.sql_meaning.specs.UsedTerms.{UsedPlaced}
use Rattle.sql_meaning.proofs.UsedTerms.{used_holds}
use Rattle.sql_meaning.proofs.LikeTerms.{term_passes}

abbrev pub all_pass : (Term → Bool) → List Term → Bool
all_pass test [] = true
all_pass test (t ∷ ts) = test t && all_pass test ts

abbrev pub any_pass : (Term → Bool) → List (List Term) → Bool
any_pass test [] = false
any_pass test (ts ∷ tss) = all_pass test ts || any_pass test tss

-- the test holds of each used term; of a union, of those of some branch
abbrev pub used_pass : (Term → Bool) → Used → Bool
used_pass test (AllOf ts) = all_pass test ts
used_pass test (AnyOf tss) = any_pass test tss

abbrev pub used_passes : Schema → Bound → List Value → ℕ → Used → Assignment → Bool
used_passes schema bound params item used env =
    used_pass (term_passes schema bound.items params item env) used

all_are : (env : Assignment) (params : List Value) (item : ℕ) (ts : List Term)
    → all_terms env params item ts ≡ all_pass (term_holds env params item) ts
all_are env params item [] = refl
all_are env params item (t ∷ ts) =
    ap (λ b. term_holds env params item t && b) (all_are env params item ts)

any_are : (env : Assignment) (params : List Value) (item : ℕ) (tss : List (List Term))
    → any_terms env params item tss ≡ any_pass (term_holds env params item) tss
any_are env params item [] = refl
any_are env params item (ts ∷ tss) =
    ap₂ (λ x y. x || y) (all_are env params item ts) (any_are env params item tss)

pub used_are : (env : Assignment) (params : List Value) (item : ℕ) (used : Used)
    → used_holds env params item used ≡ used_pass (term_holds env params item) used
used_are env params item (AllOf ts) = all_are env params item ts
used_are env params item (AnyOf tss) = any_are env params item tss

all_agree : (P : Term → Type 0) (p q : Term → Bool) → ((t : Term) → P t → p t ≡ q t)
    → (ts : List Term) → AllByRecursion P ts → all_pass p ts ≡ all_pass q ts
all_agree P p q f [] h = refl
all_agree P p q f (t ∷ ts) h = ap₂ (λ x y. x && y) (f t h.0) (all_agree P p q f ts h.1)

any_agree : (P : Term → Type 0) (p q : Term → Bool) → ((t : Term) → P t → p t ≡ q t)
    → (tss : List (List Term)) → AllByRecursion (λ ts. AllByRecursion P ts) tss
    → any_pass p tss ≡ any_pass q tss
any_agree P p q f [] h = refl
any_agree P p q f (ts ∷ tss) h =
    ap₂ (λ x y. x || y) (all_agree P p q f ts h.0) (any_agree P p q f tss h.1)

-- tests that agree on terms whose keys are placed
pub used_agree : (placed : List ℕ) (p q : Term → Bool)
    → ((t : Term) → is_usable placed t ≡ true → p t ≡ q t) → (used : Used) → UsedPlaced placed used
    → used_pass p used ≡ used_pass q used
used_agree placed p q f (AllOf ts) h = all_agree (λ t. is_usable placed t ≡ true) p q f ts h
used_agree placed p q f (AnyOf tss) h = any_agree (λ t. is_usable placed t ≡ true) p q f tss h
