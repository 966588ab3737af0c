use Rattle.std.proofs.Common.{append_assoc}
use Rattle.expert_report.proofs.report.append_costs.Goals as goal

pub returns : goal.returns
returns c =
    rw (
      c.in_ok-append-3.ensures.ok,
      c.in_ok-append_cost-2.ensures,
      c.in_ok-append-2.ensures.ok,
      c.in_ok-append_cost.ensures,
      c.in_ok-append.ensures.ok,
    )
    (simp append_assoc)
