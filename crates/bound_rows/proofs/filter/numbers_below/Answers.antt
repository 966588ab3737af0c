use Rattle.std.proofs.Common.{ap, ◌∙◌, sym, ◌++◌, ◌∷◌, []}
use Rattle.bound_rows.proofs.Numbers.{numbers_end}
use Rattle.bound_rows.proofs.filter.numbers_below.Goals as goal

pub loop-number-preserved : goal.loop-number-preserved
loop-number-preserved c =
    c.in_ok-push.ensures.ok ∙ ap (λ l. l ++ c.loop-number.number ∷ []) c.loop-number.invariant
    ∙ sym (numbers_end c.loop-number.number)
