use Rattle.std.proofs.Common.{◌≤◌, ℕ, suc, List, length, take}
use Rattle.std.specs.List.{flat_map}
use Rattle.plan_choice.specs.Prefixes as meant
use Rattle.access_paths.specs.Settings.{setting_of}
use Rattle.nearest_prefixes.specs.Searching.{AreShown, kept_with}
use Rattle.nearest_prefixes.proofs.growing.enter_all.Given as goal

-- those of the prefixes before this one were entered
abbrev pub invariant-loop-prefix : goal.invariant-loop-prefix
invariant-loop-prefix l =
    (length l.kept.items ≤ l.most)
    × ((count : ℕ) (ps outside : List meant.Prefix)
    → AreShown (setting_of l.setting) (suc count) ps l.fn.kept.items
    → AreShown (setting_of l.setting) count outside l.outer
    → AreShown (setting_of l.setting) (suc count)
    (kept_with (setting_of l.setting) l.most ps
    (flat_map (meant.extensions (setting_of l.setting)) (take l.prefix-index outside)))
    l.kept.items)
