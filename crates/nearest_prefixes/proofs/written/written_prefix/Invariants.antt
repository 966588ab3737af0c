use Rattle.access_paths.specs.Settings.{setting_of}
use Rattle.nearest_prefixes.proofs.WrittenOrder.{GoesOn}
use Rattle.nearest_prefixes.proofs.written.written_prefix.Given as goal

abbrev pub invariant-loop-item : goal.invariant-loop-item
invariant-loop-item l = GoesOn (setting_of l.setting) l.item l.made
