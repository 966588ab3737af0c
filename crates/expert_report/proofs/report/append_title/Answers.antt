use Rattle.std.proofs.Common.{append_assoc}
use Rattle.expert_report.proofs.report.append_title.Goals as goal

pub returns-in_ok-append-4 : goal.returns-in_ok-append-4
returns-in_ok-append-4 c =
    rw (
      c.in_ok-append-4.ensures.ok,
      c.in_ok-append-3.ensures.ok,
      c.in_ok-append-2.ensures.ok,
      c.in_ok-append_number.ensures,
      c.in_ok-append.ensures.ok,
      c.as_slice.ensures,
      c.if-verbose.true,
    )
    (simp append_assoc)

pub returns-else-verbose : goal.returns-else-verbose
returns-else-verbose c =
    rw (
      c.in_ok-append-2.ensures.ok,
      c.in_ok-append_number.ensures,
      c.in_ok-append.ensures.ok,
      c.if-verbose.false,
    )
    (simp append_assoc)
