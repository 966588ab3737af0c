use Rattle.std.specs.Borrow.{Bor}
use Rattle.std.proofs.Common.{List, Some, None, subst}
use Rattle.std.proofs.lemmas.Result.{on_ok_weaker}
use Rattle.access_paths.specs.Settings.{setting_of}
use Rattle.nearest_prefixes.specs.declared.prefix.Prefix.{Prefix}
use Rattle.nearest_prefixes.proofs.EntryPlaces.{IsPlace, joins_at, joins_past, joins_nowhere}
use Rattle.nearest_prefixes.proofs.entering.enter.Goals as goal

pub returns-in-Some-clause-told : goal.returns-in-Some-clause-told
returns-in-Some-clause-told c =
    let s = setting_of c.args.setting.now in
    let n = c.in-Some.number in
    on_ok_weaker c.enter_at.result
    (joins_at s c.args.most n c.args.kept.now.items c.enter_at.new.kept.items c.args.prefix
    (subst (λ (xs : List (Bor Prefix)). IsPlace s xs c.args.prefix (Some n))
    c.as_slice.ensures.value c.in-Some.ensures.told))
    c.enter_at.ensures.told

pub returns-in_default-clause-told : goal.returns-in_default-clause-told
returns-in_default-clause-told c =
    let s = setting_of c.args.setting.now in
    let n = c.in-Some.number in
    joins_past s c.args.most n c.args.kept.now.items c.args.prefix c.requires.few
    (subst (λ (xs : List (Bor Prefix)). IsPlace s xs c.args.prefix (Some n))
    c.as_slice.ensures.value c.in-Some.ensures.told) c.if-number-most.false

pub returns-in_default-2-clause-told : goal.returns-in_default-2-clause-told
returns-in_default-2-clause-told c =
    let s = setting_of c.args.setting.now in
    joins_nowhere s c.args.most c.args.kept.now.items c.args.prefix c.requires.few
    (subst (λ (xs : List (Bor Prefix)). IsPlace s xs c.args.prefix None)
    c.as_slice.ensures.value c.in_default.ensures.told)
