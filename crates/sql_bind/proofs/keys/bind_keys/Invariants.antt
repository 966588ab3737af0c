use Rattle.std.proofs.Common.{◌≡◌, ◌++◌, map, flat_map, drop}
use Rattle.sql_tree.specs.Statements.{key_tree}
use Rattle.sql_bound.specs.Statements.{sort_key_of}
use Rattle.sql_names.specs.Faults.{first_failing}
use Rattle.sql_bind.specs.Keys.{key_checks, sort_key}
use Rattle.sql_bind.specs.Views.{results_seen}
use Rattle.sql_bind.proofs.keys.bind_keys.Given as goal

abbrev pub invariant-loop-key : goal.invariant-loop-key
invariant-loop-key l = record {
  checks : first_failing
      (flat_map (key_checks l.scope (results_seen l.results))
      (map key_tree (drop l.key-index l.keys)))
      ≡ first_failing (flat_map (key_checks l.scope (results_seen l.results))
      (map key_tree l.keys));
  made : map sort_key_of l.list.items
      ++ map (sort_key l.scope (results_seen l.results)) (map key_tree (drop l.key-index l.keys))
      ≡ map (sort_key l.scope (results_seen l.results)) (map key_tree l.keys);
}
