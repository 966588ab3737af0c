use Rattle.std.proofs.Common.{[], ap, sym, ◌∙◌, subst, suc}
use Rattle.sql_bound.specs.Statements.{item_of}
use Rattle.plan_choice.specs.Choice.{neighbor_count}
use Rattle.access_paths.specs.Settings.{setting_of}
use Rattle.nearest_prefixes.specs.Searching.{AreShown}
use Rattle.nearest_prefixes.proofs.WrittenOrder.{mapped_length}
use Rattle.nearest_prefixes.proofs.ReachedLevels.{level_made, shown_reached}
use Rattle.nearest_prefixes.proofs.level.next_level.Goals as goal

pub returns : goal.returns
returns c = λ count kept is.
    let s = setting_of c.args.setting.now in
    level_made s count c.neighbor_count-most.result kept c.enter_all.new.kept.items _
    (c.neighbor_count-most.ensures
    ∙ ap neighbor_count (sym (mapped_length item_of c.args.setting.now.bound.now.items.now)))
    (shown_reached s count kept c.args.level.kept.now is.each is.size) c.into_bump_slice.ensures
    (c.in_ok-enter_all.ensures.told count [] kept
    (subst (AreShown s (suc count) []) (sym c.new-kept.ensures.items)
    (record { each = tt; size = tt }))
    (record { each = is.each; size = is.size }))
