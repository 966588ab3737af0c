use Rattle.std.proofs.Common.{append_assoc}
use Rattle.expert_report.proofs.report.append_counts.Goals as goal

pub returns : goal.returns
returns c =
    rw (
      c.in_ok-append-5.ensures.ok,
      c.in_ok-append_number-4.ensures,
      c.in_ok-append-4.ensures.ok,
      c.in_ok-append_number-3.ensures,
      c.in_ok-append-3.ensures.ok,
      c.in_ok-append_number-2.ensures,
      c.in_ok-append-2.ensures.ok,
      c.in_ok-append_number.ensures,
      c.in_ok-append.ensures.ok,
    )
    (simp append_assoc)
