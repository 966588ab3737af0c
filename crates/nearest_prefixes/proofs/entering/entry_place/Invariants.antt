use Rattle.access_paths.specs.Settings.{setting_of}
use Rattle.nearest_prefixes.proofs.EntryPlaces.{PlaceFrom}
use Rattle.nearest_prefixes.proofs.entering.entry_place.Given as goal

abbrev pub invariant-loop-number : goal.invariant-loop-number
invariant-loop-number l = PlaceFrom (setting_of l.setting) l.kept l.prefix l.number
