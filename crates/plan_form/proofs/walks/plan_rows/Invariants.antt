use Rattle.std.proofs.Common.{◌≡◌, map, length, Some, None, [], take, drop}
use Rattle.std.specs.Prelude.{replicate}
use Rattle.std.specs.List.{flat_map}
use Rattle.list_laws.specs.Nest.{nested}
use Rattle.sql_meaning.specs.Plans.{consumed_by, steps_of}
use Rattle.sql_meaning.specs.PlanLaws.{placed_by}
use Rattle.sql_value.specs.View.{plain_value}
use Rattle.schema_model.specs.PlainSchemas.{plain_database, plain_schema}
use Rattle.sql_bound.specs.Naming.{IsPlaced}
use Rattle.bound_rows.specs.Places.{AllFit, assignments, held}
use Rattle.plan_form.specs.Plans.{plan_of}
use Rattle.plan_form.proofs.walks.plan_rows.Given as goal

abbrev pub invariant-loop-number : goal.invariant-loop-number
invariant-loop-number l = record {
  placed : IsPlaced l.placed (placed_by (take l.number (plan_of l.plan).loops) []);
  fit : AllFit (plain_database l.source.tables.now) (plan_of l.plan).bound.items
      (held l.found.items);
  found : flat_map
      (nested
      (steps_of (plain_schema l.schema) (plain_database l.source.tables.now)
      (plan_of l.plan).bound (map plain_value l.source.params.now)
      (consumed_by (plan_of l.plan).loops)
      (placed_by (take l.number (plan_of l.plan).loops) [])
      (drop l.number (plan_of l.plan).loops)))
      (assignments (plain_database l.source.tables.now) (held l.found.items))
      ≡ nested
      (steps_of (plain_schema l.schema) (plain_database l.source.tables.now)
      (plan_of l.plan).bound (map plain_value l.source.params.now)
      (consumed_by (plan_of l.plan).loops) [] (plan_of l.plan).loops)
      (replicate (length (plan_of l.plan).bound.items) (Some None));
}
