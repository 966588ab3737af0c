use Rattle.std.proofs.Common.{◌≡◌, ◌≤◌, ℕ, suc, List, length}
use Rattle.std.specs.List.{flat_map}
use Rattle.sql_meaning.specs.Statements.{numbers_from}
use Rattle.plan_choice.specs.Prefixes as meant
use Rattle.access_paths.specs.Settings.{setting_of}
use Rattle.nearest_prefixes.specs.Growing.{Begins}
use Rattle.nearest_prefixes.specs.Searching.{AreShown, by_item, kept_with}
use Rattle.nearest_prefixes.proofs.growing.enter_behind.Given as goal

-- those by the items before this one were entered
abbrev pub invariant-loop-item : goal.invariant-loop-item
invariant-loop-item l =
    (length l.kept.items ≤ l.most)
    × ((count : ℕ) (ps : List meant.Prefix) (p : meant.Prefix)
    → AreShown (setting_of l.setting) count ps l.fn.kept.items
    → Begins (setting_of l.setting) p l.before → suc (length p.loops) ≡ count
    → AreShown (setting_of l.setting) count
    (kept_with (setting_of l.setting) l.most ps
    (flat_map (by_item (setting_of l.setting) p) (numbers_from 0 l.item))) l.kept.items)
