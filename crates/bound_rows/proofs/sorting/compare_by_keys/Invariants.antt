use Rattle.std.proofs.Common.{◌≡◌, drop, map}
use Rattle.sql_value.specs.View.{plain_value}
use Rattle.sql_bound.specs.Statements.{sort_key_of}
use Rattle.bound_rows.specs.Keys.{values_cmp, values_cmp_from}
use Rattle.bound_rows.proofs.sorting.compare_by_keys.Given as goal

abbrev pub invariant-loop-number : goal.invariant-loop-number
invariant-loop-number l = values_cmp_from l.number (map sort_key_of (drop l.number l.keys)) (map plain_value l.left)
    (map plain_value l.right)
    ≡ values_cmp (map sort_key_of l.keys) (map plain_value l.left) (map plain_value l.right)
