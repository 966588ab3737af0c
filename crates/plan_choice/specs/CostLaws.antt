-- Costs stay small, so that no sum of them passes a machine's numbers.
use Rattle.std.specs.Prelude.{◌≡◌, ◌≤◌, ◌<◌, ◌*◌, ◌+◌, ℕ, false, [], ◌∷◌, length}
use Rattle.std.specs.List.{AllByRecursion}
use Rattle.sql_meaning.specs.Schemas.{Schema}
use Rattle.sql_meaning.specs.Paths.{Path, Union, Paths, Nowhere, Then, is_union}
use Rattle.plan_choice.specs.Figures.{Figures}
use Rattle.plan_choice.specs.Costs.{Size}
use Rattle.plan_choice.specs.Settings.{Statement, setting}
use Rattle.plan_choice.specs.Prefixes.{Prefix, weight, empty_prefix}
use Rattle.plan_choice.specs.Choice.{levels, written, choose}
use Rattle.plan_choice.specs.FigureLaws.{AreSmall}
use Rattle.sql_meaning.specs.Offers.{IsPlannable}
use Rattle.plan_choice.specs.Advice.{Request, advice}

-- a path that is no union runs at most 100,649, and any other one at most 60 more
pub record SizeWithin (most : ℕ) (z : Size) : Type 0 where
  pub run : z.run ≤ most
  pub entries : z.entries ≤ 1000

-- no branch of a union is a union
abbrev pub ArePlain : Paths → Type 0
ArePlain Nowhere = Unit {0}
ArePlain (Then path paths) = (is_union path ≡ false) × ArePlain paths

abbrev pub IsFlat : Path → Type 0
IsFlat (Union paths) = ArePlain paths
IsFlat path = Unit {0}

-- the rows and costs of a prefix of that many loops
pub record IsSmall (count : ℕ) (p : Prefix) : Type 0 where
  pub rows : p.rows ≤ 1000 * count
  pub cost : p.cost ≤ 1000 * count + 101060
  pub weight : weight p ≤ 1000 * count + 102060

-- of each prefix that is kept, and of the plan in written order
abbrev pub PrefixesAreSmall : Type 0
PrefixesAreSmall =
    (schema : Schema) (figures : Figures) (statement : Statement) → AreSmall figures
    → IsPlannable schema statement.bound → (count : ℕ)
    → AllByRecursion (IsSmall count)
    (levels (setting schema figures statement) count
    (empty_prefix (setting schema figures statement) ∷ []))

abbrev pub WrittenPlansAreSmall : Type 0
WrittenPlansAreSmall =
    (schema : Schema) (figures : Figures) (statement : Statement) → AreSmall figures
    → IsPlannable schema statement.bound
    → IsSmall (length statement.bound.items) (written (setting schema figures statement))

-- FROM has at most 64 items
abbrev pub ChosenCostsAreSmall : Type 0
ChosenCostsAreSmall =
    (schema : Schema) (figures : Figures) (statement : Statement) → AreSmall figures
    → IsPlannable schema statement.bound → length statement.bound.items ≤ 64
    → ((choose (setting schema figures statement)).cost < 1000000)
    × ((choose (setting schema figures statement)).written < 1000000)

abbrev pub AdviceCostsAreSmall : Type 0
AdviceCostsAreSmall =
    (r : Request)
    → AllByRecursion
    (λ st. IsPlannable r.schema st.bound × (length st.bound.items ≤ 64)) r.statements
    → AllByRecursion (λ c. (c.cost < 1000000) × (c.written < 1000000)) (advice r).plans
