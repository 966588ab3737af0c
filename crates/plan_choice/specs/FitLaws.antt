-- The paths that are chosen fit the schema, whatever terms and figures they are chosen by.
use Rattle.std.specs.Prelude.{ℕ, List}
use Rattle.std.specs.List.{AllByRecursion}
use Rattle.sql_meaning.specs.Fitting.{FitsTable, FitsTables}
use Rattle.plan_choice.specs.Settings.{Setting, table_for}
use Rattle.plan_choice.specs.Offers.{offers}
use Rattle.plan_choice.specs.Choice.{choose}
use Rattle.plan_choice.specs.Advice.{Request, advice, full_schema}

abbrev pub ListedOffersFit : Type 0
ListedOffersFit =
    (s : Setting) (placed : List ℕ) (item : ℕ)
    → AllByRecursion (λ o. FitsTable s.schema (table_for s item) o.path) (offers s placed item)

abbrev pub ChosenPlansFit : Type 0
ChosenPlansFit = (s : Setting) → FitsTables s.schema (choose s).plan

abbrev pub AdvicePlansFit : Type 0
AdvicePlansFit =
    (r : Request) → AllByRecursion (λ c. FitsTables (full_schema r) c.plan) (advice r).plans
