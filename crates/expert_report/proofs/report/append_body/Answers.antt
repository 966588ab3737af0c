use Rattle.std.proofs.Common.{append_assoc}
use Rattle.expert_report.proofs.report.append_body.Goals as goal

pub returns : goal.returns
returns c =
    rw (
      c.in_ok-append_new_indexes.ensures,
      c.in_ok-append.ensures.ok,
      c.in_ok-append_blocks.ensures,
      c.as_slice-2.ensures,
      c.as_slice.ensures,
      c.as_slice-candidates.ensures,
    )
    (simp append_assoc)
