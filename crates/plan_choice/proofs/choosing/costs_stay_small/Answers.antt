use Rattle.plan_choice.proofs.SmallCosts.{prefixes_are_small, written_plans_are_small}
use Rattle.plan_choice.proofs.SmallCosts.{chosen_costs_are_small, advice_costs_are_small}
use Rattle.plan_choice.proofs.choosing.costs_stay_small.Goals as goal

pub returns-clause-kept : goal.returns-clause-kept
returns-clause-kept c = prefixes_are_small

pub returns-clause-written : goal.returns-clause-written
returns-clause-written c = written_plans_are_small

pub returns-clause-chosen : goal.returns-clause-chosen
returns-clause-chosen c = chosen_costs_are_small

pub returns-clause-advice : goal.returns-clause-advice
returns-clause-advice c = advice_costs_are_small
