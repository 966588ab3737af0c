use Rattle.std.proofs.Common.{take}
use Rattle.sql_bind.specs.Views.{results_seen, HasAliases}
use Rattle.sql_bind.proofs.keys.find_aliases.Given as goal

abbrev pub invariant-loop-column : goal.invariant-loop-column
invariant-loop-column l =
    HasAliases l.aliases.entries (results_seen (take l.column-index l.results))
