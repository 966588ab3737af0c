-- The chosen plan costs no more than the plan in written order, and means its statement.
use Rattle.std.specs.Prelude.{◌≡◌, ◌≤◌, true, length}
use Rattle.std.specs.List.{AllByRecursion}
use Rattle.std.specs.Ordering.{is_le}
use Rattle.sql_meaning.specs.Schemas.{Schema}
use Rattle.sql_meaning.specs.Offers.{FitsOffers, IsPlannable}
use Rattle.sql_meaning.specs.OrderState.{FitsOrder}
use Rattle.sql_meaning.specs.Asked.{Means}
use Rattle.plan_choice.specs.Figures.{Figures}
use Rattle.plan_choice.specs.Settings.{Setting, Statement, setting}
use Rattle.plan_choice.specs.Prefixes.{empty_prefix, extensions}
use Rattle.plan_choice.specs.Choice.{choose, nearer, chosen_prefix}

abbrev pub ChosenPlansCostNoMore : Type 0
ChosenPlansCostNoMore = (s : Setting) → (choose s).cost ≤ (choose s).written

-- whatever the figures are
abbrev pub ChosenPlansMean : Type 0
ChosenPlansMean =
    (schema : Schema) (figures : Figures) (statement : Statement)
    → IsPlannable schema statement.bound
    → Means schema (choose (setting schema figures statement)).plan

-- of one item the offer of least key is taken
abbrev pub OneItemTakesTheNearest : Type 0
OneItemTakesTheNearest =
    (s : Setting) → length s.bound.items ≡ 1
    → AllByRecursion (λ p. is_le (nearer s (chosen_prefix s) p) ≡ true)
    (extensions s (empty_prefix s))

-- its loops are offers, each item has one, and items change places as LEFT JOIN allows; it sorts,
-- and walks backward, just where its order state asks for that
abbrev pub ChosenPlansAreOffered : Type 0
ChosenPlansAreOffered =
    (schema : Schema) (figures : Figures) (statement : Statement)
    → IsPlannable schema statement.bound
    → FitsOffers schema (choose (setting schema figures statement)).plan
    × FitsOrder schema (choose (setting schema figures statement)).plan
