use Rattle.std.proofs.Common.{sym, ◌∙◌}
use Rattle.std.proofs.lemmas.Bool.Decides.{nat_tests}
use Rattle.std.proofs.lemmas.Grind.{common_steps}
use Rattle.std.proofs.Common.{arith}
use Rattle.like_range.proofs.Raised.{not_raised, raised_last}
use Rattle.like_range.proofs.bounds.raised.Goals as goal

pub returns-then-last-eq255 : goal.returns-then-last-eq255
returns-then-last-eq255 c =
    sym (not_raised c.args.front.now c.args.last (grind (arith, nat_tests, c.if-last-eq255.true)))

pub returns : goal.returns
returns c =
    grind (arith, common_steps)
    ∙ sym (raised_last c.args.front.now c.args.last
    (grind (arith, nat_tests, c.if-last-eq255.false)))
