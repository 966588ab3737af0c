use Rattle.plan_choice.proofs.FittingFigures.{counted_figures_fit, given_figures_fit}
use Rattle.plan_choice.proofs.FittingFigures.{advice_figures_fit, logarithms_are_small}
use Rattle.plan_choice.proofs.choosing.figures_fit_their_schema.Goals as goal

pub returns-clause-counted : goal.returns-clause-counted
returns-clause-counted c = counted_figures_fit

pub returns-clause-given : goal.returns-clause-given
returns-clause-given c = given_figures_fit

pub returns-clause-advice : goal.returns-clause-advice
returns-clause-advice c = advice_figures_fit

pub returns-clause-logarithms : goal.returns-clause-logarithms
returns-clause-logarithms c = logarithms_are_small
