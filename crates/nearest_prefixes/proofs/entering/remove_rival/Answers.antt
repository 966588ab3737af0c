use Rattle.std.specs.Borrow.{Bor}
use Rattle.std.proofs.Common.{List, Some, None, sym, subst}
use Rattle.access_paths.specs.Settings.{setting_of}
use Rattle.nearest_prefixes.specs.declared.prefix.Prefix.{Prefix}
use Rattle.nearest_prefixes.proofs.EntryPlaces.{IsRivalAt, LosesRival, loses_one, loses_none}
use Rattle.nearest_prefixes.proofs.entering.remove_rival.Goals as goal

pub returns-in-Some-clause-told : goal.returns-in-Some-clause-told
returns-in-Some-clause-told c =
    let s = setting_of c.args.setting.now in
    let from = c.args.from in
    let kept = c.args.kept.now.items in
    let x = c.args.prefix.now in
    let n = c.in-Some.number in
    subst (LosesRival s from kept x) (sym c.remove.ensures.items)
    (loses_one s kept x from n c.requires.from
    (subst (λ (xs : List (Bor Prefix)). IsRivalAt s xs x from (Some n)) c.as_slice.ensures.value
    c.in-Some.ensures.told))

pub returns-in_default-clause-told : goal.returns-in_default-clause-told
returns-in_default-clause-told c =
    let s = setting_of c.args.setting.now in
    let x = c.args.prefix.now in
    loses_none s c.args.kept.now.items x c.args.from c.requires.from
    (subst (λ (xs : List (Bor Prefix)). IsRivalAt s xs x c.args.from None)
    c.as_slice.ensures.value c.in_default.ensures.told)
