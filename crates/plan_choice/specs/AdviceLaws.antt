-- Advice: its plans mean their statements, and what it recommends is what they use.
use Rattle.std.specs.Prelude.{◌≡◌, ◌<◌, ◌≤◌, ◌+◌, ◌↔◌, ℕ, true, List, [], ◌∷◌, length}
use Rattle.std.specs.List.{AllByRecursion}
use Rattle.sql_meaning.specs.Statements.{has_number}
use Rattle.sql_meaning.specs.Asked.{Means}
use Rattle.sql_meaning.specs.Offers.{IsPlannable}
use Rattle.plan_choice.specs.Choice.{Chosen}
use Rattle.plan_choice.specs.Advice.{Request, advice, full_schema, some_plan_uses}

abbrev pub AdvicePlansMean : Type 0
AdvicePlansMean =
    (r : Request) → AllByRecursion (λ st. IsPlannable r.schema st.bound) r.statements
    → AllByRecursion (λ c. Means (full_schema r) c.plan) (advice r).plans

abbrev pub AdviceCostsNoMore : Type 0
AdviceCostsNoMore = (r : Request) → AllByRecursion (λ c. c.cost ≤ c.written) (advice r).plans

-- each number is greater than those before it
abbrev pub AreRising : List ℕ → Type 0
AreRising [] = Unit {0}
AreRising (n ∷ ns) = AllByRecursion (λ m. n < m) ns × AreRising ns

-- these numbers rise, and are just those of the candidates that some plan uses
pub record IsUse (own count : ℕ) (plans : List Chosen) (numbers : List ℕ) : Type 0 where
  pub rises : AreRising numbers
  pub exact : (n : ℕ) → (has_number n numbers ≡ true)
      ↔ ((n < count) × (some_plan_uses (own + n) plans ≡ true))

-- of each plan by itself
abbrev pub AreUses : ℕ → ℕ → List Chosen → List (List ℕ) → Type 0
AreUses own count [] [] = Unit {0}
AreUses own count [] (ns ∷ rest) = ⊥
AreUses own count (c ∷ cs) [] = ⊥
AreUses own count (c ∷ cs) (ns ∷ rest) = IsUse own count (c ∷ []) ns × AreUses own count cs rest

-- the recommended candidates are those that some plan uses, and `fresh` has those of each plan
abbrev pub NamesWhatPlansUse : Type 0
NamesWhatPlansUse =
    (r : Request)
    → IsUse (length r.schema.indexes) (length (advice r).candidates) (advice r).plans
    (advice r).recommended
    × AreUses (length r.schema.indexes) (length (advice r).candidates) (advice r).plans
    (advice r).fresh
