use Rattle.std.proofs.Common.{◌≡◌, ◌≤◌, ◌<◌, ℕ, List, Some, refl, ap, ◌∙◌, length, map, sym, subst}
use Rattle.std.proofs.lemmas.List.{length-map}
use Rattle.std.specs.List.{AllByRecursion}
use Rattle.plan_choice.specs.Advice.{advice, full_schema}
use Rattle.plan_choice.specs.CandidateNames.{candidate_names}
use Rattle.plan_choice.specs.Candidates.{candidate_limit}
use Rattle.sql_meaning.specs.Schemas as plain
use Rattle.schema_model.specs.PlainSchemas.{plain_index, plain_schema}
use Rattle.schema_model.specs.Schemas.{Schema}
use Rattle.schema_read.specs.Dumps.{seen_dump}
use Rattle.schema_model.specs.declared.indexes.Index.{Index}
use Rattle.plan_choice.specs.Scans.{Scan as Scanned}
use Rattle.schema_model.specs.UsableIndexes.{IsEmptyUnlessUsable}
use Rattle.schema_read.specs.declared.dump.Dump.{Dump}
use Rattle.schema_read.specs.declared.state.State.{State}
use Rattle.candidate_index.proofs.ServedLists.{unusable_serve_nothing}
use Rattle.expert_report.specs.Planning.{asked_by}
use Rattle.stat_figures.specs.declared.sources.StatSource.{StatSource}
use Rattle.candidate_index.specs.Faults as candidates_fault
use Rattle.candidate_index.specs.Known.{IsCandidateOf, candidates_of}
use Rattle.candidate_index.specs.Naming.{naming}
use Rattle.candidate_index.specs.declared.found.CandidateFault.{CandidateFault}
use Rattle.candidate_index.specs.declared.found.CandidateFault.TheVariants as fault
use Rattle.candidate_index.specs.Scans.{scans_of}
use Rattle.candidate_index.specs.declared.asked.Scan.{Scan}
use Rattle.expert_advice.specs.Full.{with_candidates}
use Rattle.expert_report.specs.Advice.{IsSound, request_on, script_report, script_request}
use Rattle.expert_report.specs.AdviseFaults.{IsWhy, of_candidates}
use Rattle.expert_report.specs.Readings.{bound_in, script_statements}
use Rattle.expert_report.specs.declared.outcomes.Report.{Report}
use Rattle.expert_report.proofs.Named.{named_again, these_behind}
use Rattle.expert_report.proofs.SoundReports.{exits, no_report, report_is_made, report_is_sound}
use Rattle.expert_report.proofs.advice.advise.Goals as goal

pub report_over-requires-clause-meant : goal.report_over-requires-clause-meant
unfolding script_request
report_over-requires-clause-meant c =
    let dump = c.args.dump.now in
    let statements = script_statements dump.schema c.args.script.now in
    c.full_schemas_are_meant.ensures dump.schema c.in_ok-full.full c.as_slice-2.result.now
    (request_on (seen_dump dump) c.args.source c.args.percent statements) c.in_ok-full.ensures.same
    refl c.requires.unusable
    (ap (map plain_index) c.as_slice-2.ensures ∙ c.in_ok-found.ensures.lists
    ∙ ap (λ (asked : List (List Scan)). candidates_of dump.schema (scans_of asked))
    c.as_slice.ensures
    ∙ ap (candidates_of dump.schema) c.in_ok-asked.ensures.scans_are)

pub returns-clause-report : goal.returns-clause-report
unfolding script_report script_request
returns-clause-report c =
    let dump = c.args.dump.now in
    let schema = dump.schema in
    let statements = script_statements schema c.args.script.now in
    let r = request_on (seen_dump dump) c.args.source c.args.percent statements in
    let made = c.as_slice-2.result.now in
    let full = c.in_ok-full.full in
    let same : full ≡ with_candidates schema made = c.in_ok-full.ensures.same in
    let meant : plain_schema full ≡ full_schema r =
    c.full_schemas_are_meant.ensures dump.schema c.in_ok-full.full made r c.in_ok-full.ensures.same
    refl c.requires.unusable
    (ap (map plain_index) c.as_slice-2.ensures ∙ c.in_ok-found.ensures.lists
    ∙ ap (λ (asked : List (List Scan)). candidates_of dump.schema (scans_of asked))
    c.as_slice.ensures
    ∙ ap (candidates_of dump.schema) c.in_ok-asked.ensures.scans_are) in
    let are : map plain_index made ≡ (advice r).candidates =
    these_behind r schema made refl (ap plain_schema (sym same) ∙ meant) in
    let names : map (λ i. i.name) made ≡ candidate_names (naming schema) (map plain_index made) =
    subst (λ (is : List Index). map (λ i. i.name) is
    ≡ candidate_names (naming schema) (map plain_index is)) (sym c.as_slice-2.ensures)
    c.in_ok-found.ensures.names in
    let sound = subst (AllByRecursion (IsCandidateOf schema.tables)) (sym c.as_slice-2.ensures)
    c.in_ok-found.ensures.sound in
    let few : length (advice r).candidates ≤ candidate_limit =
    subst (λ (n : ℕ). n ≤ candidate_limit)
    (ap length (sym c.as_slice-2.ensures) ∙ sym (length-map made plain_index) ∙ ap length are)
    c.in_ok-found.ensures.few in
    report_is_made (seen_dump dump) c.args.source c.args.percent statements full
    (same ∙ named_again schema made (advice r).candidates names sound are) few
    ∙ ap Some (sym c.in_ok-report.ensures.report)

pub returns-clause-sound : goal.returns-clause-sound
unfolding script_request
returns-clause-sound c =
    let dump = c.args.dump.now in
    let statements = script_statements dump.schema c.args.script.now in
    let r = request_on (seen_dump dump) c.args.source c.args.percent statements in
    let made = c.as_slice-2.result.now in
    let meant : plain_schema c.in_ok-full.full ≡ full_schema r =
    c.full_schemas_are_meant.ensures dump.schema c.in_ok-full.full made r c.in_ok-full.ensures.same
    refl c.requires.unusable
    (ap (map plain_index) c.as_slice-2.ensures ∙ c.in_ok-found.ensures.lists
    ∙ ap (λ (asked : List (List Scan)). candidates_of dump.schema (scans_of asked))
    c.as_slice.ensures
    ∙ ap (candidates_of dump.schema) c.in_ok-asked.ensures.scans_are) in
    subst (IsSound r) (sym c.in_ok-report.ensures.report)
    (report_is_sound (seen_dump dump) c.args.source c.args.percent statements c.in_ok-full.full meant
    c.in_ok-report.ensures.means)

counted : (source : StatSource) (percent : ℕ) (dump : Dump)
    (pieces : List (List ℕ)) (scans : List Scanned) → AllByRecursion IsEmptyUnlessUsable dump.schema.indexes
    → scans ≡ asked_by (plain_schema dump.schema) (bound_in (script_statements dump.schema pieces))
    → candidates_of dump.schema scans
    ≡ (advice (script_request (seen_dump dump) source percent pieces)).candidates
unfolding script_request
counted source percent dump pieces scans unusable are =
    ap (candidates_of dump.schema) are
    ∙ unusable_serve_nothing dump.schema
    (asked_by (plain_schema dump.schema) (bound_in (script_statements dump.schema pieces))) unusable

-- there are too many candidates
why : (dump : State) (source : StatSource) (percent : ℕ) (pieces : List (List ℕ))
    (found : List plain.Index) (fault : CandidateFault)
    → found ≡ (advice (script_request dump source percent pieces)).candidates
    → candidates_fault.IsWhy found fault
    → IsWhy (script_report dump source percent pieces) (of_candidates fault)
unfolding script_report script_request
why dump source percent pieces found fault.TooMany are many =
    no_report dump source percent (script_statements dump.schema pieces)
    (subst (λ (is : List plain.Index). candidate_limit < length is) are many)
why dump source percent pieces found fault.Memory are many = tt

pub returns-in_err-found-clause-fault : goal.returns-in_err-found-clause-fault
returns-in_err-found-clause-fault c =
    let dump = c.args.dump.now in
    let schema = dump.schema in
    let pieces = c.args.script.now in
    let asked = c.as_slice.result.now in
    exits (IsWhy (script_report (seen_dump dump) c.args.source c.args.percent pieces))
    c.from_residual-in_err-found.result (of_candidates c.in_err-found.field-0.0)
    c.from_residual-in_err-found.ensures.1
    (why (seen_dump dump) c.args.source c.args.percent pieces
    (candidates_of schema (scans_of asked)) c.in_err-found.field-0.0
    (counted c.args.source c.args.percent dump pieces (scans_of asked) c.requires.unusable
    (ap scans_of c.as_slice.ensures ∙ c.in_ok-asked.ensures.scans_are))
    c.in_err-found.ensures.many)
