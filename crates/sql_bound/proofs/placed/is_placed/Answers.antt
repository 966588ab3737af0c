use Rattle.std.proofs.Common.{◌<◌, ◌^◌, arith}
use Rattle.sql_bound.proofs.Bits.{beyond}
use Rattle.sql_bound.proofs.placed.is_placed.Goals as goal

pub returns-else-item-lt64 : goal.returns-else-item-lt64
returns-else-item-lt64 c =
    let small : c.args.placed < 2 ^ 64 = omega (arith, c.ranges.placed) in
    beyond c.args.placed 64 c.args.item small c.if-item-lt64.false
