use Rattle.std.proofs.Common.{◌≡◌, ◌≤◌, ℕ, suc, List, length, map, take}
use Rattle.plan_choice.specs.Prefixes as meant
use Rattle.access_paths.specs.Settings.{setting_of}
use Rattle.nearest_prefixes.specs.Searching.{AreShown, ComesBy, kept_with}
use Rattle.nearest_prefixes.proofs.growing.enter_offers.Given as goal

-- those by the offers before this one were entered
abbrev pub invariant-loop-number : goal.invariant-loop-number
invariant-loop-number l =
    (length l.kept.items ≤ l.most)
    × ((count : ℕ) (ps : List meant.Prefix) (p : meant.Prefix)
    → AreShown (setting_of l.setting) count ps l.fn.kept.items
    → ComesBy (setting_of l.setting) p l.before l.item l.offers → suc (length p.loops) ≡ count
    → AreShown (setting_of l.setting) count
    (kept_with (setting_of l.setting) l.most ps
    (map (meant.extended (setting_of l.setting) p)
    (take l.number (meant.offered_loops (setting_of l.setting) (meant.placed_in p) l.item))))
    l.kept.items)
