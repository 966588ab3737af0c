use Rattle.std.proofs.Common.{◌∙◌}
use Rattle.stat_figures.proofs.Quotients.{quotient_is}
use Rattle.stat_figures.proofs.averages.average.Goals as goal

pub returns : goal.returns
returns c = c.div_ceil.ensures ∙ quotient_is c.args.total c.args.values c.requires
