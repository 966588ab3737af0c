use Rattle.std.proofs.Common.{◌≡◌, map, flat_map, drop}
use Rattle.sql_tree.specs.Statements.{set_tree}
use Rattle.sql_names.specs.Faults.{first_failing}
use Rattle.sql_bind.specs.Conditions.{set_checks}
use Rattle.sql_bind.proofs.conditions.check_sets.Given as goal

abbrev pub invariant-loop-column : goal.invariant-loop-column
invariant-loop-column l =
    first_failing (flat_map (set_checks l.scope) (map set_tree (drop l.column-index l.sets)))
    ≡ first_failing (flat_map (set_checks l.scope) (map set_tree l.sets))
