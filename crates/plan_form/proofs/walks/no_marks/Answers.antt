use Rattle.std.proofs.Common.{◌∙◌, ◌++◌, ◌∷◌, [], ap, sym, false}
use Rattle.plan_form.proofs.Marking.{replicate_more}
use Rattle.plan_form.proofs.walks.no_marks.Goals as goal

pub loop-number-preserved : goal.loop-number-preserved
loop-number-preserved c =
    c.in_ok-push.ensures.ok ∙ ap (λ l. l ++ false ∷ []) c.loop-number.invariant
    ∙ sym (replicate_more c.loop-number.number false)
