use Rattle.std.proofs.Common.{◌≡◌, ◌++◌, ◌<◌, length, drop, map}
use Rattle.std.specs.List.{AllByRecursion}
use Rattle.sql_meaning.specs.Fitting.{PathFits}
use Rattle.schema_model.specs.PlainSchemas.{plain_schema}
use Rattle.plan_form.specs.Plans.{loop_of, plan_of, covers}
use Rattle.plan_form.specs.Texts.{loops_lines, as_text, aliases_of}
use Rattle.plan_form.proofs.text.plan_text.Given as goal

-- what is left to be written
abbrev pub invariant-loop-step : goal.invariant-loop-step
invariant-loop-step l = record {
  written : l.text ++ as_text (loops_lines l.schema (aliases_of l.plan.bound.now.items.now)
      (plan_of l.plan).bound
      (map (λ s. covers s.path.now) (drop l.step-index l.step-items))
      (map loop_of (drop l.step-index l.step-items)))
      ≡ as_text (loops_lines l.schema (aliases_of l.plan.bound.now.items.now)
      (plan_of l.plan).bound (map (λ s. covers s.path.now) l.step-items)
      (map loop_of l.step-items));
  items : AllByRecursion (λ s. s.item < length (plan_of l.plan).bound.items)
      (map loop_of (drop l.step-index l.step-items));
  paths : AllByRecursion
      (λ s. PathFits (plain_schema l.schema) (plan_of l.plan).bound s.item s.path)
      (map loop_of (drop l.step-index l.step-items));
}
