use Rattle.std.proofs.Common.{◌≡◌, ◌++◌, drop, map}
use Rattle.std.specs.List.{AllByRecursion}
use Rattle.sql_meaning.specs.Fitting.{part_keys}
use Rattle.sql_meaning.specs.Paths.{part_value}
use Rattle.schema_model.specs.PlainSchemas.{plain_database}
use Rattle.sql_eval.specs.Environments.{assignment_of, params_of}
use Rattle.path_walks.specs.Parts.{plain_part}
use Rattle.plan_form.specs.Paths.{part_of, parts_of}
use Rattle.plan_form.specs.Seeks.{AllGive}
use Rattle.plan_form.proofs.keys.part_values.Given as goal

abbrev pub invariant-loop-part : goal.invariant-loop-part
invariant-loop-part l = record {
  gives : AllByRecursion
      (λ part. AllGive (plain_database l.env.tables.now) l.env.places.now (part_keys part))
      (map (λ part. part_of part.now) (drop l.part-index l.part-items));
  seen : map plain_part l.values.items
      ++ map (part_value (assignment_of l.env) (params_of l.env))
      (map (λ part. part_of part.now) (drop l.part-index l.part-items))
      ≡ map (part_value (assignment_of l.env) (params_of l.env)) (parts_of l.eqs);
}
