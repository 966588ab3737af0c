use Rattle.plan_choice.specs.Prefixes.{empty_prefix}
use Rattle.plan_choice.specs.Choice.{levels}
use Rattle.std.proofs.Common.{[], ◌∷◌}
use Rattle.access_paths.specs.Settings.{setting_of}
use Rattle.nearest_prefixes.specs.Growing.{IsLevel}
use Rattle.nearest_prefixes.proofs.level.nearest.Given as goal

-- it is the level of so many loops
abbrev pub invariant-loop : goal.invariant-loop
invariant-loop l =
    IsLevel (setting_of l.setting) l.counter l.level
    (levels (setting_of l.setting) l.counter (empty_prefix (setting_of l.setting) ∷ []))
