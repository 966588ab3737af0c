use Rattle.std.proofs.Common.{◌≡◌, ◌++◌, map, flat_map, drop}
use Rattle.sql_tree.specs.Statements.{item_tree}
use Rattle.sql_names.specs.Faults.{first_failing}
use Rattle.sql_bind.specs.Results.{entry_checks, results_of}
use Rattle.sql_bind.specs.Views.{results_seen}
use Rattle.sql_bind.proofs.results.bind_results.Given as goal

abbrev pub invariant-loop-entry : goal.invariant-loop-entry
invariant-loop-entry l = record {
  checks : first_failing
      (flat_map (entry_checks l.scope) (map item_tree (drop l.entry-index l.entries)))
      ≡ first_failing (flat_map (entry_checks l.scope) (map item_tree l.entries));
  made : results_seen l.results.items
      ++ flat_map (results_of l.scope) (map item_tree (drop l.entry-index l.entries))
      ≡ flat_map (results_of l.scope) (map item_tree l.entries);
}
