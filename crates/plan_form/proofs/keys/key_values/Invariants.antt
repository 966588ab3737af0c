use Rattle.std.proofs.Common.{◌≡◌, ◌++◌, drop, map}
use Rattle.sql_meaning.specs.Paths.{key_value}
use Rattle.sql_value.specs.View.{plain_value}
use Rattle.schema_model.specs.PlainSchemas.{plain_database}
use Rattle.sql_eval.specs.Environments.{assignment_of, params_of}
use Rattle.sql_bound.specs.Statements.{key_expr_of, key_exprs_of}
use Rattle.plan_form.specs.Seeks.{AllGive}
use Rattle.plan_form.proofs.keys.key_values.Given as goal

abbrev pub invariant-loop-key : goal.invariant-loop-key
invariant-loop-key l = record {
  gives : AllGive (plain_database l.env.tables.now) l.env.places.now
      (map key_expr_of (drop l.key-index l.key-items));
  seen : map plain_value l.values
      ++ map (key_value (assignment_of l.env) (params_of l.env))
      (map key_expr_of (drop l.key-index l.key-items))
      ≡ map (key_value (assignment_of l.env) (params_of l.env)) (key_exprs_of l.keys);
}
