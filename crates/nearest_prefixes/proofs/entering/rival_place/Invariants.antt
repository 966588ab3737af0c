use Rattle.access_paths.specs.Settings.{setting_of}
use Rattle.nearest_prefixes.proofs.EntryPlaces.{RivalFrom}
use Rattle.nearest_prefixes.proofs.entering.rival_place.Given as goal

abbrev pub invariant-loop-number : goal.invariant-loop-number
invariant-loop-number l = RivalFrom (setting_of l.setting) l.kept l.prefix l.from l.number
