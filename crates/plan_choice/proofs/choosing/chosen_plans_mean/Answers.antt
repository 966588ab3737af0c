use Rattle.plan_choice.proofs.ChosenCosts.{chosen_plans_cost_no_more}
use Rattle.plan_choice.proofs.OneItem.{one_item_takes_the_nearest}
use Rattle.plan_choice.proofs.ChosenPlans.{chosen_plans_mean, chosen_plans_are_offered}
use Rattle.plan_choice.proofs.choosing.chosen_plans_mean.Goals as goal

pub returns-clause-means : goal.returns-clause-means
returns-clause-means c = chosen_plans_mean

pub returns-clause-offered : goal.returns-clause-offered
returns-clause-offered c = chosen_plans_are_offered

pub returns-clause-costs : goal.returns-clause-costs
returns-clause-costs c = chosen_plans_cost_no_more

pub returns-clause-one_item : goal.returns-clause-one_item
returns-clause-one_item c = one_item_takes_the_nearest
