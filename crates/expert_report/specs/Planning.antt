-- What statements are planned over, and what is known of their plans.
use Rattle.std.specs.Prelude.{◌≡◌, ◌+◌, ◌++◌, ℕ, Bool, List, Option, length, map}
use Rattle.std.specs.List.{AllByRecursion, flat_map}
use Rattle.sql_meaning.specs.Asked.{Means}
use Rattle.sql_meaning.specs.Schemas as plain
use Rattle.plan_choice.specs.Advice as meant
use Rattle.plan_choice.specs.Choice.{Chosen, choose}
use Rattle.plan_choice.specs.Scans.{Scan, scans}
use Rattle.plan_choice.specs.Settings.{Statement, setting}
use Rattle.schema_model.specs.PlainSchemas.{plain_schema}
use Rattle.schema_model.specs.Schemas.{Schema}
use Rattle.schema_read.specs.declared.state.State.{State}
use Rattle.stat_figures.specs.declared.sources.StatSource.{StatSource}
use Rattle.candidate_index.specs.Scans.{AllScansOf, scans_of}
use Rattle.candidate_index.specs.declared.asked.Scan as asked
use Rattle.access_paths.specs.Indexes.{indexes_of}
use Rattle.expert_advice.specs.Full.{IsFull}
use Rattle.expert_advice.specs.Planned.{told_of}
use Rattle.expert_advice.specs.Uses.{ShowUse}
use Rattle.expert_advice.specs.declared.planned.PlannedStatement.{PlannedStatement}
use Rattle.expert_report.specs.Advice.{outcome_of, report_over, request_on, statement_report}
use Rattle.expert_report.specs.Readings.{Reading, BoundTo, RefusedFor, ScriptStatement}
use Rattle.expert_report.specs.Readings.{bound_if_any, bound_in}
use Rattle.expert_report.specs.declared.outcomes.Report.{Report}
use Rattle.expert_report.specs.declared.outcomes.StatementOutcome.{StatementOutcome}
use Rattle.expert_report.specs.declared.outcomes.StatementReport.{StatementReport}
use Rattle.expert_report.specs.declared.planning.Ground.{Ground}

-- its parts are of one schema
pub record IsOver (ground : Ground) : Type 0 where
  pub full : IsFull ground.own.now ground.full.now
  pub indexes : ground.indexes.now ≡ indexes_of (plain_schema ground.full.now)

-- the plan of a statement
unfoldable pub plan_over : Ground → Statement → Chosen
plan_over ground statement =
    choose (setting (plain_schema ground.full.now) ground.figures.now statement)

-- what is told of it
abbrev pub planned_for : Ground → Statement → List (Option (List ℕ)) → PlannedStatement
planned_for ground statement aliases =
    told_of ground.full.now aliases (length ground.own.now.indexes) (plan_over ground statement)

abbrev pub outcome_over : Ground → Reading → StatementOutcome
outcome_over ground = outcome_of (plan_over ground) ground.full.now (length ground.own.now.indexes)

abbrev pub told_over : Ground → ScriptStatement → StatementReport
told_over ground =
    statement_report (plan_over ground) ground.full.now (length ground.own.now.indexes)

-- the plan of a statement means it
pub record IsMeant (ground : Ground) (statement : Statement) : Type 0 where
  pub means : Means (plain_schema ground.full.now) (plan_over ground statement).plan

-- where it is bound
abbrev pub PlanMeans : Ground → Reading → Type 0
PlanMeans ground reading = AllByRecursion (IsMeant ground) (bound_if_any reading)

abbrev pub EachPlanMeans : Ground → List ScriptStatement → Type 0
EachPlanMeans ground statements = AllByRecursion (IsMeant ground) (bound_in statements)

-- the candidates that the plans of these statements use are marked, and no others
pub record MarksOf (ground : Ground) (old new : List Bool) (statements : List Statement) : Type 0
  where
    pub marks : (count : ℕ) (plans : List Chosen)
        → length ground.full.now.indexes ≡ length ground.own.now.indexes + count
        → ShowUse old (length ground.own.now.indexes) count plans
        → ShowUse new (length ground.own.now.indexes) count
        (plans ++ map (plan_over ground) statements)

abbrev pub MarksPlans : Ground → List Bool → List Bool → List ScriptStatement → Type 0
MarksPlans ground old new statements = MarksOf ground old new (bound_in statements)

-- what statements ask of the columns of a schema
abbrev pub asked_by : plain.Schema → List Statement → List Scan
asked_by schema statements = flat_map (λ st. scans schema st.bound) statements

-- the scans of these statements are made behind others
pub record AddsScans (schema : Schema) (old new : List (List asked.Scan))
    (statements : List Statement) : Type 0
  where
    pub scans_are : scans_of new ≡ scans_of old ++ asked_by (plain_schema schema) statements
    pub sound : AllScansOf schema.tables old → AllScansOf schema.tables new

-- each plan of an advice means its statement
abbrev pub AdviceMeans : meant.Request → Type 0
AdviceMeans r = AllByRecursion (λ c. Means (meant.full_schema r) c.plan) (meant.advice r).plans

-- the report on statements, over the schema with all candidates
abbrev pub report_by : State → StatSource → ℕ → List ScriptStatement → Schema → Report
report_by dump source percent statements full =
    let r = request_on dump source percent statements in
    report_over dump statements r full (meant.advice r)
