-- The report on a script over a dump: what `advise` of plan_choice says, in texts.
use Rattle.std.specs.Prelude.{ℕ, ◌≤◌, true, false, Option, option_map, List, [], ◌∷◌, map, length}
use Rattle.std.specs.List.{AllByRecursion, flat_map}
use Rattle.sql_meaning.specs.Schemas as plain
use Rattle.sql_meaning.specs.Asked.{Means}
use Rattle.plan_choice.specs.Advice as meant
use Rattle.plan_choice.specs.AdviceLaws.{AreUses, IsUse}
use Rattle.plan_choice.specs.CandidateNames.{candidate_names}
use Rattle.plan_choice.specs.Choice.{Chosen, choose}
use Rattle.plan_choice.specs.Settings.{Statement, setting}
use Rattle.schema_model.specs.Schemas.{Schema}
use Rattle.schema_model.specs.declared.indexes.Index.{Index}
use Rattle.schema_read.specs.declared.state.State.{State}
use Rattle.stat_figures.specs.declared.sources.StatSource.{StatSource}
use Rattle.candidate_index.specs.Naming.{column_of, naming}
use Rattle.expert_advice.specs.Full.{with_candidates}
use Rattle.expert_advice.specs.Lines.{candidate_lines}
use Rattle.expert_advice.specs.Planned.{told_of}
use Rattle.expert_advice.specs.Requests.{request_of}
use Rattle.expert_report.specs.Readings.{Reading, BoundTo, RefusedFor, ScriptStatement}
use Rattle.expert_report.specs.Readings.{bound_in, script_statements}
use Rattle.expert_report.specs.declared.outcomes.Report.{Report}
use Rattle.expert_report.specs.declared.outcomes.StatementOutcome.{StatementOutcome}
use Rattle.expert_report.specs.declared.outcomes.StatementOutcome.TheVariants.{Planned, Refused}
use Rattle.expert_report.specs.declared.outcomes.StatementReport.{StatementReport}

-- advice is asked for on those statements of a script that are bound
abbrev pub request_on : State → StatSource → ℕ → List ScriptStatement → meant.Request
request_on dump source percent statements =
    request_of dump source percent (bound_in statements)

-- the plan of a statement, over all candidates
abbrev pub chosen : meant.Request → Statement → Chosen
chosen r statement =
    choose (setting (meant.full_schema r) (meant.advice r).figures statement)

abbrev pub named : List ℕ → plain.Index → Index
named name index = record {
  name = name;
  table = index.table;
  columns = map column_of index.columns;
  unique = false;
  usable = true;
}

abbrev pub each_named : List (List ℕ) → List plain.Index → List Index
each_named [] indexes = []
each_named (name ∷ names) [] = []
each_named (name ∷ names) (index ∷ indexes) = named name index ∷ each_named names indexes

-- the schema with candidates behind its own indexes, under their names
abbrev pub with_named : Schema → List plain.Index → Schema
with_named schema candidates =
    with_candidates schema (each_named (candidate_names (naming schema) candidates) candidates)

-- what is told of a statement: its plan, printed over the schema with all candidates, or why it is
-- refused
abbrev pub outcome_of : (Statement → Chosen) → Schema → ℕ → Reading → StatementOutcome
outcome_of plan full own (BoundTo statement aliases) =
    Planned (told_of full aliases own (plan statement))
outcome_of plan full own (RefusedFor why) = Refused why

abbrev pub statement_report : (Statement → Chosen) → Schema → ℕ → ScriptStatement
    → StatementReport
statement_report plan full own s = record {
  text = s.text;
  outcome = outcome_of plan full own s.reading;
}

abbrev pub report_over : State → List ScriptStatement → meant.Request → Schema → meant.Advice
    → Report
report_over dump statements r full a = record {
  tables = length dump.schema.tables;
  unread = length dump.schema.unread;
  statements_passed = dump.statements_passed;
  rows_passed = dump.rows_passed;
  candidates = candidate_lines full a.figures (length dump.schema.indexes);
  statements = map (statement_report (chosen r) full (length dump.schema.indexes)) statements;
  recommended = a.recommended;
}

abbrev pub report_from : State → List ScriptStatement → meant.Request → meant.Advice → Report
report_from dump statements r a =
    report_over dump statements r (with_named dump.schema a.candidates) a

abbrev pub report_on : State → List ScriptStatement → meant.Request → Option Report
report_on dump statements r = option_map (report_from dump statements r) (meant.advise r)

-- advice on the pieces of a script, which is asked for over a dump
unfoldable pub script_request : State → StatSource → ℕ → List (List ℕ) → meant.Request
script_request dump source percent pieces =
    request_on dump source percent (script_statements dump.schema pieces)

-- the report on it; none where there are too many candidates
unfoldable pub script_report : State → StatSource → ℕ → List (List ℕ) → Option Report
script_report dump source percent pieces =
    report_on dump (script_statements dump.schema pieces)
    (script_request dump source percent pieces)

abbrev pub fresh_if_any : StatementOutcome → List (List ℕ)
fresh_if_any (Planned planned) = planned.fresh ∷ []
fresh_if_any (Refused why) = []

-- the candidates that the plan of each planned statement uses, by their numbers
abbrev pub fresh_in : List StatementReport → List (List ℕ)
fresh_in statements = flat_map (λ s. fresh_if_any s.outcome) statements

-- each plan gives the rows of its statement on every database of the schema, and costs no more than
-- the plan in written order; and just the candidates that plans use are told of, each once
pub record IsSound (r : meant.Request) (report : Report) : Type 0 where
  pub means : AllByRecursion (λ c. Means (meant.full_schema r) c.plan) (meant.advice r).plans
  pub no_more : AllByRecursion (λ c. c.cost ≤ c.written) (meant.advice r).plans
  pub recommended : IsUse (length r.schema.indexes) (length report.candidates)
      (meant.advice r).plans report.recommended
  pub fresh : AreUses (length r.schema.indexes) (length report.candidates)
      (meant.advice r).plans (fresh_in report.statements)
