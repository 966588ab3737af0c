use Rattle.std.proofs.Common.{sym, arith}
use Rattle.sql_value.proofs.Digits.{over, at_place}
use Rattle.sql_value.proofs.numbers.read_digits.Goals as goal

pub returns-then-next-most : goal.returns-then-next-most
returns-then-next-most c =
    let more = at_place c.loop-digit.number c.loop-digit.digit-index c.args.digits.now
    c.loop-digit-test.true in
    sym (over c.args.most c.args.digits.now (rw c.loop-digit.invariant.value
    (omega (arith, more, c.if-next-most.true))))
