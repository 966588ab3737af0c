use Rattle.std.proofs.KnownBytes.{Appends-trans}
use Rattle.std.proofs.lemmas.Result.{err_from_is_err_and, on_err_weaker}
use Rattle.expert_main.proofs.Lines.{prefix_first, prefix_then}
use Rattle.expert_main.proofs.refusal.write_line.Goals as goal

pub returns-in_err-write_all-2-clause-err : goal.returns-in_err-write_all-2-clause-err
returns-in_err-write_all-2-clause-err g c =
    let p = err_from_is_err_and c.from_residual-in_err-write_all-2.result
    c.from_residual-in_err-write_all-2.ensures.1 in
    rw p.1 (prefix_first _ _ _ _
    (prefix_then _ _ _ _ _ c.in_ok-write_all.ensures.ok c.in_err-write_all-2.ensures.err))

pub returns-clause-err : goal.returns-clause-err
returns-clause-err g c =
    on_err_weaker c.write_all-3.result
    (λ h. prefix_then _ _ _ _ _
    (Appends-trans _ _ _ _ _ c.in_ok-write_all.ensures.ok c.in_ok-write_all-2.ensures.ok) h)
    c.write_all-3.ensures.err
