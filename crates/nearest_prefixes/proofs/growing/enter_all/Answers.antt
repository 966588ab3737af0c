use Rattle.std.proofs.Common.{arith, subst, List, ap, suc}
use Rattle.std.specs.List.{flat_map}
use Rattle.std.proofs.lemmas.List.{take_all}
use Rattle.plan_choice.specs.Prefixes as meant
use Rattle.access_paths.specs.Settings.{setting_of}
use Rattle.nearest_prefixes.specs.Searching.{AreShown, kept_with}
use Rattle.nearest_prefixes.proofs.ShownLists.{shown_at, size_at, shown_length}
use Rattle.nearest_prefixes.proofs.Growths.{prefix_more}
use Rattle.nearest_prefixes.proofs.growing.enter_all.Goals as goal

pub enter_behind-requires-clause-begins : goal.enter_behind-requires-clause-begins
enter_behind-requires-clause-begins c =
    let at = shown_at (setting_of c.args.setting.now) c.requires.shown.0 c.args.outer.now
    c.loop-prefix.prefix-index c.prefix-item.result c.requires.shown.1 c.loop-prefix-test.true
    c.prefix-item.is in
    (at.prefix, at.shows)

pub loop-prefix-preserved : goal.loop-prefix-preserved
loop-prefix-preserved c = (
  c.in_ok-enter_behind.ensures.few,
  λ count ps outside shown outer.
      let s = setting_of c.args.setting.now in
      let at = shown_at s outside c.args.outer.now c.loop-prefix.prefix-index c.prefix-item.result
      outer.each c.loop-prefix-test.true c.prefix-item.is in
      let n = c.loop-prefix.prefix-index in
      subst (λ (qs : List meant.Prefix). AreShown s (suc count) qs c.enter_behind.new.kept.items)
      (prefix_more s c.args.most n ps outside at.prefix at.rest)
      (c.in_ok-enter_behind.ensures.told (suc count) _ at.prefix
      (c.loop-prefix.invariant.1 count ps outside shown outer) at.shows
      (ap suc (size_at count outside n at.prefix outer.size at.rest))),
)

pub returns-clause-told : goal.returns-clause-told
returns-clause-told c = λ count ps outside shown outer.
    let s = setting_of c.args.setting.now in
    let far = c.loop-prefix-test.false in
    let same = shown_length s outside c.args.outer.now outer.each in
    subst
    (λ (qs : List meant.Prefix). AreShown s (suc count)
    (kept_with s c.args.most ps (flat_map (meant.extensions s) qs)) c.loop-prefix.kept.items)
    (take_all c.loop-prefix.prefix-index outside (omega (arith, far, same)))
    (c.loop-prefix.invariant.1 count ps outside shown outer)
