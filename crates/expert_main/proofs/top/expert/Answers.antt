use Rattle.std.proofs.Common.{sym}
use Rattle.expert_main.proofs.Told.{answer_told, silent}
use Rattle.expert_main.proofs.top.expert.Goals as goal

pub returns-in-Ok-write_all-clause-told : goal.returns-in-Ok-write_all-clause-told
returns-in-Ok-write_all-clause-told g c =
    answer_told c.args.words.now _ _ _ _ _ c.in-Ok.answer c.in-Ok.ensures.ok
    (rw (sym c.as_slice.ensures) c.in-Ok-write_all.ensures.ok) (silent _)
