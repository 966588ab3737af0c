-- The text of a report.
use Rattle.std.specs.Prelude.{ℕ, ◌+◌, Bool, true, false, cond, Option, None, Some, List, [], ◌∷◌}
use Rattle.std.specs.Prelude.{◌++◌, codes, decimal, slice_get}
use Rattle.std.specs.Fmt.{signed_decimal}
use Rattle.std.specs.List.{flat_map, list_any}
use Rattle.expert_advice.specs.declared.lines.CandidateLine.{CandidateLine}
use Rattle.expert_advice.specs.declared.planned.PlannedStatement.{PlannedStatement}
use Rattle.expert_report.specs.declared.outcomes.StatementOutcome.{StatementOutcome}
use Rattle.expert_report.specs.declared.outcomes.StatementOutcome.TheVariants.{Planned, Refused}
use Rattle.expert_report.specs.declared.outcomes.StatementReport.{StatementReport}
use Rattle.expert_report.specs.declared.outcomes.Report.{Report}

-- what only the verbose form has
abbrev pub if_verbose : Bool → List ℕ → List ℕ
if_verbose verbose text = cond verbose text []

abbrev pub create_line : Option CandidateLine → List ℕ
create_line None = []
create_line (Some c) = c.create ++ codes ";" ++ 10 ∷ []

abbrev pub create_lines : List CandidateLine → List ℕ → List ℕ
create_lines candidates numbers = flat_map (λ n. create_line (slice_get candidates n)) numbers

-- the candidates of these numbers
abbrev pub new_indexes : List CandidateLine → List ℕ → List ℕ
new_indexes candidates [] = codes "(no new indexes)" ++ 10 ∷ []
new_indexes candidates (n ∷ ns) = create_lines candidates (n ∷ ns)

abbrev pub cost_line : PlannedStatement → List ℕ
cost_line p =
    codes "cost " ++ signed_decimal p.cost
    ++ codes ", written order " ++ signed_decimal p.written ++ 10 ∷ []

abbrev pub planned_text : Bool → List CandidateLine → PlannedStatement → List ℕ
planned_text verbose candidates p =
    new_indexes candidates p.fresh ++ 10 ∷ p.lines ++ if_verbose verbose (cost_line p) ++ 10 ∷ []

abbrev pub refused_text : List ℕ → List ℕ
refused_text why = codes "refused: " ++ why ++ 10 ∷ 10 ∷ []

abbrev pub outcome_text : Bool → List CandidateLine → StatementOutcome → List ℕ
outcome_text verbose candidates (Planned p) = planned_text verbose candidates p
outcome_text verbose candidates (Refused why) = refused_text why

abbrev pub title : Bool → ℕ → List ℕ → List ℕ
title verbose number text =
    codes "-- Statement " ++ decimal number ++ 10 ∷ if_verbose verbose (text ++ 10 ∷ [])

-- a statement under its number
abbrev pub block : Bool → List CandidateLine → ℕ → StatementReport → List ℕ
block verbose candidates number s =
    title verbose number s.text ++ outcome_text verbose candidates s.outcome

abbrev pub blocks : Bool → List CandidateLine → ℕ → List StatementReport → List ℕ
blocks verbose candidates number [] = []
blocks verbose candidates number (s ∷ ss) =
    block verbose candidates number s ++ blocks verbose candidates (number + 1) ss

abbrev pub candidate_text : CandidateLine → List ℕ
candidate_text c = c.create ++ codes "; -- stat1: " ++ c.stat ++ 10 ∷ []

abbrev pub candidate_list : List CandidateLine → List ℕ
candidate_list [] = codes "(none)" ++ 10 ∷ []
candidate_list (c ∷ cs) = flat_map candidate_text (c ∷ cs)

-- what was read of the database
abbrev pub count_line : Report → List ℕ
count_line report =
    codes "tables " ++ decimal report.tables ++ codes ", unread " ++ decimal report.unread
    ++ codes ", passed over " ++ decimal report.statements_passed ++ codes " statements and "
    ++ decimal report.rows_passed ++ codes " rows" ++ 10 ∷ []

-- what stands before the statements
abbrev pub front : Report → List ℕ
front report =
    codes "-- Database" ++ 10 ∷ count_line report ++ 10 ∷ codes "-- Candidates" ++ 10
    ∷ candidate_list report.candidates ++ 10 ∷ []

-- statements are numbered from 1; the indexes that are recommended stand last
abbrev pub body : Bool → Report → List ℕ
body verbose report =
    blocks verbose report.candidates 1 report.statements
    ++ codes "-- Recommended" ++ 10 ∷ new_indexes report.candidates report.recommended

abbrev pub text_of : Bool → Report → List ℕ
text_of verbose report = if_verbose verbose (front report) ++ body verbose report

abbrev pub is_refused : StatementOutcome → Bool
is_refused (Planned planned) = false
is_refused (Refused why) = true

abbrev pub refuses_some : Report → Bool
refuses_some report = list_any (λ s. is_refused s.outcome) report.statements
