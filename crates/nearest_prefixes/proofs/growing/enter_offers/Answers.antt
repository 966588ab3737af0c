use Rattle.std.proofs.Common.{arith, subst, List, ◌∙◌, map}
use Rattle.std.proofs.lemmas.List.{take_all}
use Rattle.plan_choice.specs.Prefixes as meant
use Rattle.access_paths.specs.Settings.{setting_of}
use Rattle.nearest_prefixes.specs.Searching.{AreShown, kept_with}
use Rattle.nearest_prefixes.proofs.Reached.{length_more}
use Rattle.nearest_prefixes.proofs.NextLoops.{next_loop, next_stands, loops_length}
use Rattle.nearest_prefixes.proofs.Growths.{offer_more}
use Rattle.nearest_prefixes.proofs.growing.enter_offers.Goals as goal

pub extended-made-requires-clause-stands : goal.extended-made-requires-clause-stands
extended-made-requires-clause-stands c =
    next_stands (setting_of c.args.setting.now) c.requires.comes.0 c.args.before c.args.item
    c.args.offers.now c.loop-number.number _ c.requires.comes.1 c.loop-number-test.true

pub loop-number-preserved : goal.loop-number-preserved
loop-number-preserved c = (
  c.in_ok-enter.ensures.few,
  λ count ps p shown comes size.
      let s = setting_of c.args.setting.now in
      let n = c.loop-number.number in
      let next = next_loop s p c.args.before c.args.item c.args.offers.now n _ comes
      c.loop-number-test.true in
      subst (λ (qs : List meant.Prefix). AreShown s count qs c.enter.new.kept.items)
      (offer_more s p c.args.most n ps (meant.offered_loops s (meant.placed_in p) c.args.item)
      next.loop next.rest)
      (c.in_ok-enter.ensures.told count _ (meant.extended s p next.loop)
      (c.loop-number.invariant.1 count ps p shown comes size)
      (c.extended-made.ensures p next.loop comes.begins next.follows next.told)
      (length_more p.loops next.loop ∙ size)),
)

pub returns-clause-told : goal.returns-clause-told
returns-clause-told c = λ count ps p shown comes size.
    let s = setting_of c.args.setting.now in
    let ts = meant.offered_loops s (meant.placed_in p) c.args.item in
    let far = c.loop-number-test.false in
    let same = loops_length c.args.item c.args.offers.now ts comes.told in
    subst
    (λ (us : List meant.OfferedLoop). AreShown s count
    (kept_with s c.args.most ps (map (meant.extended s p) us)) c.loop-number.kept.items)
    (take_all c.loop-number.number ts (omega (arith, far, same)))
    (c.loop-number.invariant.1 count ps p shown comes size)
