use Rattle.std.proofs.Common.{◌≡◌, arith, subst, List, ap, ◌∙◌, length}
use Rattle.std.specs.List.{flat_map}
use Rattle.sql_bound.specs.Statements.{item_of}
use Rattle.sql_meaning.specs.Statements.{numbers_from}
use Rattle.plan_choice.specs.Prefixes as meant
use Rattle.access_paths.specs.Settings.{setting_of}
use Rattle.nearest_prefixes.specs.Searching.{AreShown, by_item, kept_with}
use Rattle.nearest_prefixes.proofs.WrittenOrder.{mapped_length}
use Rattle.nearest_prefixes.proofs.Growths.{item_more, by_all_items}
use Rattle.nearest_prefixes.proofs.growing.enter_behind.Goals as goal

pub loop-item-preserved : goal.loop-item-preserved
loop-item-preserved c = (
  c.in_ok-enter_item.ensures.few,
  λ count ps p shown begins size.
      let s = setting_of c.args.setting.now in
      subst (λ (qs : List meant.Prefix). AreShown s count qs c.enter_item.new.kept.items)
      (item_more s p c.args.most c.loop-item.item ps)
      (c.in_ok-enter_item.ensures.told count _ p
      (c.loop-item.invariant.1 count ps p shown begins size) begins size),
)

pub returns-clause-told : goal.returns-clause-told
returns-clause-told c = λ count ps p shown begins size.
    let s = setting_of c.args.setting.now in
    let far = c.loop-item-test.false in
    let near = c.loop-item.auto.item-end in
    let same = mapped_length item_of c.args.setting.now.bound.now.items.now in
    let all : c.loop-item.item ≡ length s.bound.items = omega (arith, far, near, same) in
    subst
    (λ (qs : List meant.Prefix). AreShown s count (kept_with s c.args.most ps qs)
    c.loop-item.kept.items)
    (ap (λ n. flat_map (by_item s p) (numbers_from 0 n)) all ∙ by_all_items s p)
    (c.loop-item.invariant.1 count ps p shown begins size)
