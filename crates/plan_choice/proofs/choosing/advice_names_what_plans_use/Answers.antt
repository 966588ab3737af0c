use Rattle.plan_choice.proofs.AdvicePlans.{advice_plans_mean, advice_costs_no_more}
use Rattle.plan_choice.proofs.AdvicePlans.{names_what_plans_use}
use Rattle.plan_choice.proofs.choosing.advice_names_what_plans_use.Goals as goal

pub returns-clause-means : goal.returns-clause-means
returns-clause-means c = advice_plans_mean

pub returns-clause-costs : goal.returns-clause-costs
returns-clause-costs c = advice_costs_no_more

pub returns-clause-used : goal.returns-clause-used
returns-clause-used c = names_what_plans_use
