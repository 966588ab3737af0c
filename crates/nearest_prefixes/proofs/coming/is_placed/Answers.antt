use Rattle.std.proofs.Common.{◌<◌, ◌^◌, arith}
use Rattle.sql_bound.proofs.Bits.{beyond}
use Rattle.nearest_prefixes.proofs.coming.is_placed.Goals as goal

pub returns-else-item-lt-BITS : goal.returns-else-item-lt-BITS
returns-else-item-lt-BITS c =
    let small : c.args.placed < 2 ^ 64 = omega (arith, c.ranges.placed) in
    beyond c.args.placed 64 c.args.item small c.if-item-lt-BITS.false
