-- Advice: its plans mean their statements, and what it recommends is what they use.
use Rattle.std.specs.List.{AllByRecursion, filter}
use Rattle.std.proofs.Common.{◌≡◌, ◌<◌, ◌≤◌, ℕ, zero, suc, ◌+◌, Bool, true, false, cond, map}
use Rattle.std.proofs.Common.{List, [], ◌∷◌, length, arith}
use Rattle.list_laws.proofs.Lists.{all_map, all_filter, filter_all}
use Rattle.sql_meaning.specs.Schemas.{Schema, Index}
use Rattle.sql_meaning.specs.Statements.{Bound, numbers_from, FitsStatement}
use Rattle.sql_meaning.specs.Asked.{Means}
use Rattle.plan_choice.specs.Figures.{Figures}
use Rattle.plan_choice.specs.Settings.{Statement, setting}
use Rattle.plan_choice.specs.Choice.{Chosen}
use Rattle.plan_choice.specs.Advice.{Request, advice, full_schema, full_figures, plans_over}
use Rattle.plan_choice.specs.Advice.{some_plan_uses, used_of}
use Rattle.sql_meaning.specs.Offers.{IsPlannable}
use Rattle.plan_choice.specs.AdviceLaws.{AdvicePlansMean, AdviceCostsNoMore, AreRising, IsUse}
use Rattle.plan_choice.specs.AdviceLaws.{AreUses}
use Rattle.plan_choice.specs.AdviceLaws.{NamesWhatPlansUse}
use Rattle.sql_meaning.proofs.Plans.{has_all}
use Rattle.sql_meaning.proofs.SameTables.{conversions}
use Rattle.sql_meaning.specs.Schemas.{with_indexes}
use Rattle.plan_choice.proofs.ChosenCosts.{chosen_plans_cost_no_more}
use Rattle.plan_choice.proofs.ChosenPlans.{chosen_plans_mean}
use Rattle.plan_choice.proofs.SoundLevels.{numbers_below}
use Rattle.plan_choice.proofs.PlacedItems.{has_filter, has_from}

plans_mean : (schema : Schema) (figured : Figures) (sts : List Statement)
    → AllByRecursion (λ st. IsPlannable schema st.bound) sts
    → AllByRecursion (λ c. Means schema c.plan) (plans_over schema figured sts)
plans_mean schema figured [] h = tt
plans_mean schema figured (st ∷ sts) h =
    (chosen_plans_mean schema figured st h.0, plans_mean schema figured sts h.1)

still_fits : (schema : Schema) (indexes : List Index) (bound : Bound) → FitsStatement schema bound
    → FitsStatement (with_indexes schema indexes) bound
still_fits schema indexes bound h =
    all_map _ _ bound.conjuncts (λ c f. conversions schema indexes bound.items c.expr f) h

-- whether a statement fits depends on the tables alone
pub still_plannable : (r : Request) (st : Statement) → IsPlannable r.schema st.bound
    → IsPlannable (full_schema r) st.bound
still_plannable r st h =
    record {
      fits = still_fits r.schema (full_schema r).indexes st.bound h.fits;
      some = h.some;
      named = h.named;
      owners = h.owners;
    }

pub advice_plans_mean : AdvicePlansMean
advice_plans_mean = λ r h.
    plans_mean (full_schema r) (full_figures r (full_schema r)) r.statements
    (all_map _ _ r.statements (λ st p. still_plannable r st p) h)

costs_no_more : (schema : Schema) (figured : Figures) (sts : List Statement)
    → AllByRecursion (λ c. c.cost ≤ c.written) (plans_over schema figured sts)
costs_no_more schema figured [] = tt
costs_no_more schema figured (st ∷ sts) = (
  chosen_plans_cost_no_more (setting schema figured st),
  costs_no_more schema figured sts,
)

pub advice_costs_no_more : AdviceCostsNoMore
advice_costs_no_more = λ r.
    costs_no_more (full_schema r) (full_figures r (full_schema r)) r.statements

rising_case : (n : ℕ) (ns : List ℕ) (b : Bool) → AllByRecursion (λ m. n < m) ns → AreRising ns
    → AreRising (cond b (n ∷ ns) ns)
rising_case n ns true a r = (a, r)
rising_case n ns false a r = r

numbers_after : (start n : ℕ) → AllByRecursion (λ m. start ≤ m) (numbers_from start n)
numbers_after start zero = tt
numbers_after start (suc n) = (
  omega arith,
  all_map _ _ (numbers_from (start + 1) n) (λ m l. omega (arith, l)) (numbers_after (start + 1) n),
)

filter_rises : (p : ℕ → Bool) (start n : ℕ) → AreRising (filter p (numbers_from start n))
filter_rises p start zero = tt
filter_rises p start (suc n) =
    rising_case start (filter p (numbers_from (start + 1) n)) (p start)
    (all_filter _ p (numbers_from (start + 1) n)
    (all_map _ _ (numbers_from (start + 1) n) (λ m l. omega (arith, l))
    (numbers_after (start + 1) n)))
    (filter_rises p (start + 1) n)

below : (own count : ℕ) (plans : List Chosen)
    → AllByRecursion (λ m. m < count) (used_of own count plans)
below own count plans =
    all_filter _ (λ n. some_plan_uses (own + n) plans) (numbers_from 0 count)
    (all_map _ _ (numbers_from 0 count) (λ m l. omega (arith, l)) (numbers_below 0 count))

used : (own count : ℕ) (plans : List Chosen)
    → AllByRecursion (λ m. some_plan_uses (own + m) plans ≡ true) (used_of own count plans)
used own count plans =
    filter_all _ (λ n. some_plan_uses (own + n) plans) (numbers_from 0 count) (λ m e. e)

uses : (own count : ℕ) (plans : List Chosen) → IsUse own count plans (used_of own count plans)
uses own count plans = record {
  rises = filter_rises (λ n. some_plan_uses (own + n) plans) 0 count;
  exact = λ n. (
    (λ e. (
      has_all (λ m. m < count) (used_of own count plans) n (below own count plans) e,
      has_all (λ m. some_plan_uses (own + m) plans ≡ true) (used_of own count plans) n
          (used own count plans) e,
    )),
    (λ h. has_filter (λ m. some_plan_uses (own + m) plans) (numbers_from 0 count) n h.1
        (has_from 0 count n (omega arith) (omega (arith, h.0)))),
  );
}

each_uses : (own count : ℕ) (plans : List Chosen)
    → AreUses own count plans (map (λ c. used_of own count (c ∷ [])) plans)
each_uses own count [] = tt
each_uses own count (c ∷ cs) = (uses own count (c ∷ []), each_uses own count cs)

pub names_what_plans_use : NamesWhatPlansUse
names_what_plans_use = λ r. (
  uses (length r.schema.indexes) (length (advice r).candidates) (advice r).plans,
  each_uses (length r.schema.indexes) (length (advice r).candidates) (advice r).plans,
)
