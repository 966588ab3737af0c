use Rattle.std.proofs.Common.{◌∙◌}
use Rattle.nearest_prefixes.proofs.LinkedLoops.{linked_cmp, left_single, right_single}
use Rattle.nearest_prefixes.proofs.comparing.+compare_loops.Goals as goal

pub returns-in-Some-Some : goal.returns-in-Some-Some
returns-in-Some-Some t c = λ e.
    c.then.ensures
    ∙ linked_cmp c.args.left.now c.args.right.now c.in-Some-Some.outer c.in-Some-Some.other
    c.compare_loops.result c.compare_last.result c.in-Some-Some.is-0 c.in-Some-Some.is-1
    c.compare_loops.ensures c.compare_last.ensures e

pub returns-in_default : goal.returns-in_default
returns-in_default t c = λ e.
    c.compare_last-in_default.ensures
    ∙ elim c.in_default.branch [
      | goal.in_default-via-in-Some+in_default w ↦
          right_single c.args.left.now c.args.right.now w.in_default.is-1 e
      | goal.in_default-via-in_default w ↦
          left_single c.args.left.now c.args.right.now w.in_default.is-0 e
    ]
