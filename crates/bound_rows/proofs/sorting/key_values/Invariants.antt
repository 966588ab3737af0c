use Rattle.std.proofs.Common.{◌≡◌, ◌++◌, drop, map}
use Rattle.std.specs.List.{AllByRecursion}
use Rattle.sql_value.specs.View.{plain_value}
use Rattle.sql_bound.specs.Statements.{sort_key_of}
use Rattle.sql_eval.specs.Environments.{GivesRows, assignment_of, params_of}
use Rattle.bound_rows.specs.Keys.{key_values}
use Rattle.bound_rows.proofs.sorting.key_values.Given as goal

abbrev pub invariant-loop-key : goal.invariant-loop-key
invariant-loop-key l = record {
  rows : AllByRecursion (λ k. GivesRows l.env k.expr)
      (map sort_key_of (drop l.key-index l.keys));
  seen : map plain_value l.values
      ++ key_values (map sort_key_of (drop l.key-index l.keys)) (params_of l.env)
      (assignment_of l.env)
      ≡ key_values (map sort_key_of l.keys) (params_of l.env) (assignment_of l.env);
}
