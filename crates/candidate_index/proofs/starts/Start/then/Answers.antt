use Rattle.std.proofs.Common.{sym, ◌∙◌}
use Rattle.candidate_index.proofs.StartColumns.{then_there, then_new}
use Rattle.candidate_index.proofs.starts.Start.then.Goals as goal
use Rattle.candidate_index.proofs.starts.Start.then.Goals.{then-not-has+in_ok-push, else-not-has}

pub loop-column-preserved : goal.loop-column-preserved
loop-column-preserved c =
    elim c.if-not-has.branch [
      | then-not-has+in_ok-push w ↦
          then_new c.args.self.now c.args.others.now c.loop-column.list c.if-not-has.list
          c.loop-column.column-index _ _ c.loop-column-test.true
          (sym c.has.ensures ∙ w.if-not-has.true) (w.list-is ∙ w.in_ok-push.ensures.ok)
          c.loop-column.invariant
      | else-not-has w ↦
          then_there c.args.self.now c.args.others.now c.loop-column.list c.if-not-has.list
          c.loop-column.column-index _ _ c.loop-column-test.true
          (sym c.has.ensures ∙ w.if-not-has.false) w.list-is c.loop-column.invariant
    ]
