use Rattle.std.proofs.Common.{refl, sym, ◌∙◌, arith}
use Rattle.access_paths.specs.Settings.{setting_of}
use Rattle.nearest_prefixes.proofs.EntryPlaces.{place_here, place_nowhere, place_later, place_last}
use Rattle.nearest_prefixes.proofs.entering.entry_place.Goals as goal

pub loop-number-init : goal.loop-number-init
loop-number-init c = λ count ps p shown k size. refl

pub returns-then-is_gt-clause-told : goal.returns-then-is_gt-clause-told
returns-then-is_gt-clause-told c =
    place_here (setting_of c.args.setting.now) c.args.kept.now c.args.prefix.now
    c.loop-number.number c.index-kept-number.result c.compare.result c.loop-number-test.true
    c.index-kept-number.is c.compare.ensures (sym c.is_gt.ensures ∙ c.if-is_gt.true)
    c.loop-number.invariant

pub returns-then-are_rivals-clause-told : goal.returns-then-are_rivals-clause-told
returns-then-are_rivals-clause-told c =
    place_nowhere (setting_of c.args.setting.now) c.args.kept.now c.args.prefix.now
    c.loop-number.number c.index-kept-number.result c.index-kept-number-in-loop-number.result
    c.compare.result c.are_rivals.result c.loop-number-test.true c.index-kept-number.is
    c.index-kept-number-in-loop-number.is c.compare.ensures
    (sym c.is_gt.ensures ∙ c.if-is_gt.false) c.are_rivals.ensures c.if-are_rivals.true
    c.loop-number.invariant

pub loop-number-preserved : goal.loop-number-preserved
loop-number-preserved c =
    place_later (setting_of c.args.setting.now) c.args.kept.now c.args.prefix.now
    c.loop-number.number c.index-kept-number.result c.index-kept-number-in-loop-number.result
    c.compare.result c.are_rivals.result c.loop-number-test.true c.index-kept-number.is
    c.index-kept-number-in-loop-number.is c.compare.ensures
    (sym c.is_gt.ensures ∙ c.if-is_gt.false) c.are_rivals.ensures c.if-are_rivals.false
    c.loop-number.invariant

pub returns-clause-told : goal.returns-clause-told
returns-clause-told c =
    let past = c.loop-number-test.false in
    let within = c.loop-number.auto.number-end in
    place_last (setting_of c.args.setting.now) c.args.kept.now c.args.prefix.now
    c.loop-number.number (omega (arith, past)) (omega (arith, within)) c.loop-number.invariant
