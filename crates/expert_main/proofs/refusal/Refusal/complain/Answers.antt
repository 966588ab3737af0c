use Rattle.expert_main.proofs.Lines.{writes_line}
use Rattle.expert_main.proofs.refusal.Refusal.complain.Goals as goal

pub returns : goal.returns
returns g c =
    rw c.text.ensures (writes_line c.write_line.result _ _ _ _ _ c.write_line.ensures.ok
    c.write_line.ensures.err c.write_line.ensures.cause)
