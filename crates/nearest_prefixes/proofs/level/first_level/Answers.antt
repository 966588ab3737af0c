use Rattle.std.proofs.Common.{[], ◌∷◌, List, ap, sym, ◌∙◌, subst, refl, append-nil}
use Rattle.sql_bound.specs.Statements.{item_of}
use Rattle.plan_choice.specs.Choice.{neighbor_count}
use Rattle.plan_choice.specs.Prefixes.{Prefix, empty_prefix, extensions}
use Rattle.access_paths.specs.Settings.{setting_of}
use Rattle.nearest_prefixes.specs.Searching.{AreShown, kept_with}
use Rattle.nearest_prefixes.proofs.WrittenOrder.{mapped_length}
use Rattle.nearest_prefixes.proofs.ReachedLevels.{level_made}
use Rattle.nearest_prefixes.proofs.level.first_level.Goals as goal

pub returns : goal.returns
returns c =
    let s = setting_of c.args.setting.now in
    let most = c.neighbor_count-most.result in
    let xs = c.enter_behind.new.kept.items in
    level_made s 0 most (empty_prefix s ∷ []) xs _
    (c.neighbor_count-most.ensures
    ∙ ap neighbor_count (sym (mapped_length item_of c.args.setting.now.bound.now.items.now)))
    (refl, tt) c.into_bump_slice.ensures
    (subst (λ (ps : List Prefix). AreShown s 1 (kept_with s most [] ps) xs)
    (sym (append-nil (extensions s (empty_prefix s))))
    (c.in_ok-enter_behind.ensures.told 1 [] (empty_prefix s)
    (subst (AreShown s 1 []) (sym c.new-kept.ensures.items) (record { each = tt; size = tt }))
    refl refl))
