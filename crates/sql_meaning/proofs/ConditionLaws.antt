-- Conjuncts say what their conditions say.
use Rattle.std.proofs.Common.{◌≡◌, ℕ, Bool, true, false, not, ◌&&◌, ◌||◌, List, [], ◌∷◌, ◌++◌, map}
use Rattle.std.proofs.Common.{Option, refl, ap, ap₂, ◌∙◌}
use Rattle.list_laws.proofs.Bools.{and_assoc}
use Rattle.sql_meaning.specs.Values.{Value}
use Rattle.sql_meaning.specs.Rows.{Assignment}
use Rattle.sql_meaning.specs.Expressions.{BExpr, flat}
use Rattle.sql_meaning.specs.Evaluation.{holds}
use Rattle.sql_meaning.specs.Statements.{Conjunct, chosen_hold}
use Rattle.sql_meaning.specs.Conjuncts.{conjuncts_of}
use Rattle.sql_meaning.specs.ConditionLaws.{ConjunctsSayTheirConditions}
use Rattle.sql_meaning.proofs.TermsHold.{all_hold_of, flat_holds}

hold-append : (p : Conjunct → Bool) (params : List Value) (xs ys : List Conjunct)
    (env : Assignment)
    → chosen_hold p params (xs ++ ys) env
    ≡ (chosen_hold p params xs env && chosen_hold p params ys env)
hold-append p params [] ys env = refl
hold-append p params (x ∷ xs) ys env =
    rw (hold-append p params xs ys env)
    (and_assoc (not (p x) || holds env params x.expr) (chosen_hold p params xs env)
    (chosen_hold p params ys env))

unless_all : (b h k : Bool) → ((not b || h) && (not b || k)) ≡ (not b || (h && k))
unless_all true h k = refl
unless_all false h k = refl

unless_none : (b : Bool) → true ≡ (not b || true)
unless_none true = refl
unless_none false = refl

-- the members of one condition
members_hold : (chosen : Option ℕ → Bool) (params : List Value) (owner : Option ℕ)
    (es : List BExpr) (env : Assignment)
    → chosen_hold (λ c. chosen c.owner) params
    (map (λ e. record { expr = e; owner = owner }) es) env
    ≡ (not (chosen owner) || all_hold_of env params es)
members_hold chosen params owner [] env = unless_none (chosen owner)
members_hold chosen params owner (e ∷ es) env =
    ap (λ b. (not (chosen owner) || holds env params e) && b)
    (members_hold chosen params owner es env)
    ∙ unless_all (chosen owner) (holds env params e) (all_hold_of env params es)

conditions_hold : (chosen : Option ℕ → Bool) (params : List Value) (conditions : List Conjunct)
    (env : Assignment)
    → chosen_hold (λ c. chosen c.owner) params (conjuncts_of conditions) env
    ≡ chosen_hold (λ c. chosen c.owner) params conditions env
conditions_hold chosen params [] env = refl
conditions_hold chosen params (c ∷ cs) env =
    hold-append (λ d. chosen d.owner) params
    (map (λ e. record { expr = e; owner = c.owner }) (flat c.expr)) (conjuncts_of cs) env
    ∙ ap₂ (λ a b. a && b)
    (members_hold chosen params c.owner (flat c.expr) env
    ∙ ap (λ b. not (chosen c.owner) || b) (flat_holds env params c.expr))
    (conditions_hold chosen params cs env)

pub conjuncts_say_their_conditions : ConjunctsSayTheirConditions
conjuncts_say_their_conditions = conditions_hold
