use Rattle.std.proofs.Common.{refl, arith}
use Rattle.std.proofs.lemmas.Bool.{le-ltb}
use Rattle.stat_figures.proofs.Powers.{exponent_is}
use Rattle.stat_figures.proofs.logarithms.log_of.Goals as goal

pub returns-clause-told : goal.returns-clause-told
returns-clause-told c =
    let power = exponent_is 63 c.args.x c.ilog2-power.result (omega arith)
    c.ilog2-power.ensures.power_le c.ilog2-power.ensures.next_power_gt in
    let large = le-ltb c.args.x 2 c.if-x-lt2.false in
    rw (large, power, c.tenths.ensures.told, c.eighths.ensures) refl
