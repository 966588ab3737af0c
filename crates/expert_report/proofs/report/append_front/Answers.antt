use Rattle.std.proofs.Common.{append_assoc}
use Rattle.expert_report.proofs.report.append_front.Goals as goal

pub returns : goal.returns
returns c =
    rw (
      c.in_ok-append-3.ensures.ok,
      c.in_ok-append_candidates.ensures,
      c.as_slice.ensures,
      c.in_ok-append-2.ensures.ok,
      c.in_ok-append_counts.ensures,
      c.in_ok-append.ensures.ok,
    )
    (simp append_assoc)
