use Rattle.std.proofs.Common.{ℕ, false}
use Rattle.std.specs.List.{slice_index_or}
use Rattle.sql_bind.proofs.Ranges.{kept_yes, kept_no}
use Rattle.sql_bind.proofs.needs.numbers.Goals as goal
use Rattle.sql_bind.proofs.needs.numbers.Goals.{then-marks-number+in_ok-push, else-marks-number}

pub loop-number-preserved : goal.loop-number-preserved
loop-number-preserved c =
    let keeps = λ (column : ℕ). slice_index_or c.args.marks.now column false in
    elim c.if-marks-number.branch [
      | then-marks-number+in_ok-push w ↦
          rw w.list-is
          (kept_yes keeps c.loop-number.number c.loop-number.list.items w.push.new.list.items
          c.loop-number.invariant w.if-marks-number.true w.in_ok-push.ensures.ok)
      | else-marks-number w ↦
          rw w.list-is
          (kept_no keeps c.loop-number.number c.loop-number.list.items c.loop-number.invariant
          w.if-marks-number.false)
    ]
