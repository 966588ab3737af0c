use Rattle.std.proofs.Common.{refl, arith}
use Rattle.access_paths.specs.Settings.{setting_of}
use Rattle.nearest_prefixes.proofs.EntryPlaces.{rival_here, rival_later, rival_nowhere}
use Rattle.nearest_prefixes.proofs.entering.rival_place.Goals as goal

pub loop-number-init : goal.loop-number-init
loop-number-init c = λ ps p shown k. refl

pub returns-then-are_rivals-clause-told : goal.returns-then-are_rivals-clause-told
returns-then-are_rivals-clause-told c =
    rival_here (setting_of c.args.setting.now) c.args.kept.now c.args.prefix.now c.args.from
    c.loop-number.number c.index-kept-number.result c.are_rivals.result c.loop-number-test.true
    c.index-kept-number.is c.are_rivals.ensures c.if-are_rivals.true c.loop-number.invariant

pub loop-number-preserved : goal.loop-number-preserved
loop-number-preserved c =
    rival_later (setting_of c.args.setting.now) c.args.kept.now c.args.prefix.now c.args.from
    c.loop-number.number c.index-kept-number.result c.are_rivals.result c.loop-number-test.true
    c.index-kept-number.is c.are_rivals.ensures c.if-are_rivals.false c.loop-number.invariant

pub returns-clause-told : goal.returns-clause-told
returns-clause-told c =
    let past = c.loop-number-test.false in
    rival_nowhere (setting_of c.args.setting.now) c.args.kept.now c.args.prefix.now c.args.from
    c.loop-number.number (omega (arith, past)) c.loop-number.invariant
