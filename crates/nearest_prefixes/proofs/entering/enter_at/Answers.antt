use Rattle.std.specs.List.{insert}
use Rattle.std.proofs.Common.{sym, ap, ◌∙◌, subst, take, drop, ◌++◌}
use Rattle.access_paths.specs.Settings.{setting_of}
use Rattle.nearest_prefixes.specs.Growing.{Shows, AllShow}
use Rattle.nearest_prefixes.specs.Keeping.{drop_rival}
use Rattle.nearest_prefixes.specs.Entering.{alike}
use Rattle.nearest_prefixes.proofs.ShownLists.{shown_take, shown_insert}
use Rattle.nearest_prefixes.proofs.entering.enter_at.Goals as goal

pub returns-clause-told : goal.returns-clause-told
returns-clause-told c = λ ps p shown k.
    let s = setting_of c.args.setting.now in
    let n = c.args.number in
    let rest = take n ps ++ drop_rival (alike s) p (drop n ps) in
    let here = subst (Shows s p) (sym c.in_ok-placed.ensures) k in
    subst (AllShow s (take c.args.most (insert rest n p)))
    (sym
    (c.truncate.ensures.items ∙ ap (take c.args.most) c.in_ok-insert.ensures.items))
    (shown_take s c.args.most (insert rest n p) _
    (shown_insert s n rest c.remove_rival.new.kept.items p c.in_ok-placed.placed
    (c.remove_rival.ensures.told ps p shown k) here))
