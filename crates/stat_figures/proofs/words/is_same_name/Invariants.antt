use Rattle.std.proofs.Common.{◌≡◌, drop}
use Rattle.plan_choice.specs.GivenFigures as meant
use Rattle.stat_figures.proofs.words.is_same_name.Given as goal

abbrev pub invariant-loop-place : goal.invariant-loop-place
invariant-loop-place l =
    meant.same_name (drop l.place l.left) (drop l.place l.right)
    ≡ meant.same_name l.left l.right
