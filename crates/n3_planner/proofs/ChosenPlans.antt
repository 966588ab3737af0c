-- What the plan that is chosen keeps, where terms are the statement's own.
use Rattle.std.proofs.Common.{◌≡◌, ◌≤◌, ◌<◌, List, sym, subst}
use Rattle.sql_meaning.specs.Asked.{Means}
use Rattle.sql_meaning.specs.TermLists.{ItemTerms, terms_of}
use Rattle.plan_choice.specs.Settings.{Setting, Statement, setting}
use Rattle.plan_choice.specs.Choice.{choose}
use Rattle.plan_choice.specs.FigureLaws.{AreSmall}
use Rattle.plan_choice.proofs.ChosenCosts.{chosen_plans_cost_no_more}
use Rattle.plan_choice.proofs.ChosenPlans.{chosen_plans_mean, chosen_plans_are_offered}
use Rattle.plan_choice.proofs.SmallCosts.{chosen_costs_are_small}
use Rattle.sql_bound.specs.Fits.{Fits}
use Rattle.sql_bound.proofs.Plannable.{fitting_are_plannable}
use Rattle.plan_form.specs.Fits.{FitsSchema}
use Rattle.n3_planner.proofs.OfferedPlans.{offered_fit}

pub record IsGood (s : Setting) : Type 0 where
  pub cost : (choose s).cost < 1000000
  pub written : (choose s).written < 1000000
  pub no_more : (choose s).cost ≤ (choose s).written
  pub means : Means s.schema (choose s).plan
  pub fits : FitsSchema s.schema (choose s).plan s.needs

own_is_good : (s : Setting) → Fits s.schema s.bound s.needs → AreSmall s.figures
    → IsGood (setting s.schema s.figures (record { bound = s.bound; needs = s.needs }))
own_is_good s fits small =
    let statement : Statement = record { bound = s.bound; needs = s.needs } in
    let own = setting s.schema s.figures statement in
    let plannable = fitting_are_plannable s.schema s.bound s.needs fits in
    let costs =
    chosen_costs_are_small s.schema s.figures statement small plannable fits.few_items in
    record {
      cost = costs.0;
      written = costs.1;
      no_more = chosen_plans_cost_no_more own;
      means = chosen_plans_mean s.schema s.figures statement plannable;
      fits = offered_fit s.schema (choose own).plan s.needs fits
          (chosen_plans_are_offered s.schema s.figures statement plannable).0;
    }

pub chosen_is_good : (s : Setting) → s.terms ≡ terms_of s.schema s.bound
    → Fits s.schema s.bound s.needs → AreSmall s.figures → IsGood s
chosen_is_good s own fits small =
    subst
    (λ (terms : List ItemTerms). IsGood
    (record {
      schema = s.schema;
      figures = s.figures;
      bound = s.bound;
      needs = s.needs;
      terms = terms;
    })) (sym own) (own_is_good s fits small)
