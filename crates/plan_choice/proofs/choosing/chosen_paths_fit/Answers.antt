use Rattle.plan_choice.proofs.FittingPaths.{listed_offers_fit}
use Rattle.plan_choice.proofs.LoopsOfOffers.{chosen_plans_fit, advice_plans_fit}
use Rattle.plan_choice.proofs.choosing.chosen_paths_fit.Goals as goal

pub returns-clause-offers : goal.returns-clause-offers
returns-clause-offers c = listed_offers_fit

pub returns-clause-plans : goal.returns-clause-plans
returns-clause-plans c = chosen_plans_fit

pub returns-clause-advice : goal.returns-clause-advice
returns-clause-advice c = advice_plans_fit
