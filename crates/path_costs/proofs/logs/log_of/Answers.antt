use Rattle.std.proofs.Common.{rules}
use Rattle.plan_choice.proofs.CostBounds.{log_est_small}
use Rattle.path_costs.proofs.Casts.{small_back}
use Rattle.path_costs.proofs.logs.log_of.Goals as goal

pub returns-clause-small : goal.returns-clause-small
returns-clause-small c =
    small_back c.log_est.result _ 639 (search rules) c.log_est.ensures (log_est_small c.args.count)
