-- What is told of a statement's plan.
use Rattle.std.specs.Prelude.{◌≡◌, ℕ, ◌-◌, pos, List, [], ◌∷◌, Option, length}
use Rattle.plan_choice.specs.Advice.{used_of}
use Rattle.plan_choice.specs.Choice as choice
use Rattle.plan_choice.specs.Settings.{Statement, setting}
use Rattle.schema_model.specs.PlainSchemas.{plain_schema}
use Rattle.schema_model.specs.Schemas.{Schema}
use Rattle.sql_bound.specs.Statements.{bound_of, needs_of}
use Rattle.sql_bound.specs.declared.statement.Bound.{Bound}
use Rattle.plan_form.specs.Plans.{covering_of, plan_of}
use Rattle.plan_form.specs.Texts.{plan_lines}
use Rattle.access_paths.specs.declared.setting.Setting.{Setting}
use Rattle.n3_planner.specs.declared.choosing.Chosen.{Chosen}
use Rattle.expert_advice.specs.declared.planned.PlannedStatement.{PlannedStatement}

abbrev pub statement_of : Bound → Statement
statement_of bound = record { bound = bound_of bound; needs = needs_of bound }

-- the plan that is chosen for a statement
abbrev pub chosen_for : Setting → choice.Chosen
chosen_for s =
    choice.choose (setting (plain_schema s.schema.now) s.figures.now (statement_of s.bound.now))

-- a plan by its lines and its weight, with the candidates behind `own` indexes that it uses
abbrev pub told_of : Schema → List (Option (List ℕ)) → ℕ → choice.Chosen → PlannedStatement
told_of full aliases own c = record {
  fresh = used_of own (length full.indexes - own) (c ∷ []);
  lines = plan_lines full aliases c.covering c.plan;
  cost = pos c.cost;
  written = pos c.written;
}

-- what the code chooses is what is defined
pub record IsSeenAs (chosen : Chosen) (c : choice.Chosen) : Type 0 where
  pub plan : plan_of chosen.plan ≡ c.plan
  pub covering : covering_of chosen.plan ≡ c.covering
  pub cost : chosen.cost ≡ pos c.cost
  pub written : chosen.written ≡ pos c.written
