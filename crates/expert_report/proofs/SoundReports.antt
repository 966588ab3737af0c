-- A report is sound: it tells of those candidates that plans use.
use Rattle.std.specs.List.{AllByRecursion}
use Rattle.std.proofs.Common.{◌≡◌, ◌-◌, ◌<◌, ◌≤◌, ℕ, Option, None, Some, List}
use Rattle.std.proofs.Common.{[], ◌∷◌, refl, sym, ap, ◌∙◌, subst, length, map, cond, nat_lt, true}
use Rattle.std.proofs.Common.{Result, IfErr, IsErrAnd}
use Rattle.std.proofs.lemmas.Result.{err_from_is_err_and}
use Rattle.std.proofs.Common.{◌+◌, ◌++◌, false, zero, suc, Bool, option_map, rules}
use Rattle.std.proofs.lemmas.List.{length-map, map-append}
use Rattle.sql_meaning.specs.Statements.{numbers_from}
use Rattle.plan_choice.specs.Advice.{Advice, advice, full_schema, used_of}
use Rattle.plan_choice.specs.AdviceLaws.{AreUses, IsUse}
use Rattle.plan_choice.specs.Candidates.{candidate_limit}
use Rattle.plan_choice.specs.Choice.{Chosen}
use Rattle.plan_choice.specs.Settings.{Statement}
use Rattle.plan_choice.proofs.AdvicePlans.{advice_costs_no_more, names_what_plans_use}
use Rattle.schema_model.specs.PlainSchemas.{plain_index, plain_schema}
use Rattle.schema_model.specs.Schemas.{Schema}
use Rattle.schema_read.specs.declared.state.State.{State}
use Rattle.stat_figures.specs.declared.sources.StatSource.{StatSource}
use Rattle.expert_report.specs.Advice.{IsSound, chosen, fresh_if_any, fresh_in, outcome_of, report_from, report_on, report_over}
use Rattle.expert_report.specs.Advice.{request_on, statement_report, with_named}
use Rattle.expert_report.specs.Planning.{AdviceMeans, report_by}
use Rattle.expert_report.specs.Readings.{Reading, BoundTo, RefusedFor, ScriptStatement, bound_if_any, bound_in}
use Rattle.expert_report.specs.declared.advice.AdviseFault.{AdviseFault}
use Rattle.expert_report.specs.declared.outcomes.Report.{Report}
use Rattle.expert_report.proofs.Wholes.{candidates_are}

-- what is told of each plan by itself
fresh_one : (plan : Statement → Chosen) (full : Schema) (own : ℕ) (reading : Reading)
    → fresh_if_any (outcome_of plan full own reading)
    ≡ map (λ c. used_of own (length full.indexes - own) (c ∷ [])) (map plan (bound_if_any reading))
fresh_one plan full own (BoundTo st aliases) = refl
fresh_one plan full own (RefusedFor why) = refl

fresh_same : (plan : Statement → Chosen) (full : Schema) (own : ℕ) (ss : List ScriptStatement)
    → fresh_in (map (statement_report plan full own) ss)
    ≡ map (λ c. used_of own (length full.indexes - own) (c ∷ [])) (map plan (bound_in ss))
fresh_same plan full own [] = refl
fresh_same plan full own (s ∷ ss) =
    let used : Chosen → List ℕ = λ c. used_of own (length full.indexes - own) (c ∷ []) in
    ap (λ (ns : List (List ℕ)). ns ++ fresh_in (map (statement_report plan full own) ss))
    (fresh_one plan full own s.reading)
    ∙ ap (λ (ns : List (List ℕ)). map used (map plan (bound_if_any s.reading)) ++ ns)
    (fresh_same plan full own ss)
    ∙ sym (map-append used (map plan (bound_if_any s.reading)) (map plan (bound_in ss)))
    ∙ ap (map used) (sym (map-append plan (bound_if_any s.reading) (bound_in ss)))

numbers_length : (from count : ℕ) → length (numbers_from from count) ≡ count
numbers_length from zero = refl
numbers_length from (suc count) = ap suc (numbers_length (from + 1) count)

pub report_is_sound : (dump : State) (source : StatSource) (percent : ℕ)
    (statements : List ScriptStatement) (full : Schema)
    → plain_schema full ≡ full_schema (request_on dump source percent statements)
    → AdviceMeans (request_on dump source percent statements)
    → IsSound (request_on dump source percent statements)
    (report_by dump source percent statements full)
report_is_sound dump source percent statements full schema mean =
    let r = request_on dump source percent statements in
    let own = length dump.schema.indexes in
    let owned : length r.schema.indexes ≡ own = length-map dump.schema.indexes plain_index in
    let count : length full.indexes - own ≡ length (advice r).candidates =
    candidates_are r dump.schema full refl schema in
    let lines : length (report_by dump source percent statements full).candidates
    ≡ length (advice r).candidates =
    length-map (numbers_from own (length full.indexes - own)) _ ∙ numbers_length own _ ∙ count in
    let uses = names_what_plans_use r in
    let fresh : (advice r).fresh
    ≡ fresh_in (map (statement_report (chosen r) full own) statements) =
    ap (λ (n : ℕ). map (λ c. used_of n (length (advice r).candidates) (c ∷ [])) (advice r).plans) owned
    ∙ ap (λ (n : ℕ). map (λ c. used_of own n (c ∷ [])) (advice r).plans) (sym count)
    ∙ sym (fresh_same (chosen r) full own statements) in
    record {
      means = mean;
      no_more = advice_costs_no_more r;
      recommended = subst (λ (n : ℕ). IsUse (length r.schema.indexes) n (advice r).plans
          (advice r).recommended) (sym lines) uses.0;
      fresh = subst (λ (n : ℕ). AreUses (length r.schema.indexes) n (advice r).plans
          (fresh_in (map (statement_report (chosen r) full own) statements))) (sym lines)
          (subst (AreUses (length r.schema.indexes) (length (advice r).candidates) (advice r).plans)
          fresh uses.1);
    }

few_or_none : (b : Bool) (a : Advice) → b ≡ false → cond b None (Some a) ≡ Some a
few_or_none true a e = absurd (cc)
few_or_none false a e = refl

not_more : (n m : ℕ) → n ≤ m → nat_lt m n ≡ false
not_more n m h = search rules

pub report_is_made : (dump : State) (source : StatSource) (percent : ℕ)
    (statements : List ScriptStatement) (full : Schema)
    → full ≡ with_named dump.schema (advice (request_on dump source percent statements)).candidates
    → length (advice (request_on dump source percent statements)).candidates ≤ candidate_limit
    → report_on dump statements (request_on dump source percent statements)
    ≡ Some (report_by dump source percent statements full)
report_is_made dump source percent statements full are few =
    let r = request_on dump source percent statements in
    ap (option_map (report_from dump statements r))
    (few_or_none (nat_lt candidate_limit (length (advice r).candidates)) (advice r)
    (not_more _ _ few))
    ∙ ap (λ (f : Schema). Some (report_over dump statements r f (advice r))) (sym are)

more_so_none : (b : Bool) (a : Advice) → b ≡ true → cond b None (Some a) ≡ None
more_so_none true a e = refl
more_so_none false a e = absurd (cc)

more : (n m : ℕ) → m < n → nat_lt m n ≡ true
more n m h = search rules

-- too many candidates
pub no_report : (dump : State) (source : StatSource) (percent : ℕ)
    (statements : List ScriptStatement)
    → candidate_limit < length (advice (request_on dump source percent statements)).candidates
    → report_on dump statements (request_on dump source percent statements) ≡ None
no_report dump source percent statements many =
    let r = request_on dump source percent statements in
    ap (option_map (report_from dump statements r))
    (more_so_none (nat_lt candidate_limit (length (advice r).candidates)) (advice r) (more _ _ many))

-- the exit of a `?`
pub exits : {X : Type 0} (P : AdviseFault → Type 0) (r : Result X AdviseFault)
    (fault : AdviseFault) → IsErrAnd r (λ e. e ≡ fault) → P fault → IfErr r P
exits {X} P r fault is h =
    let e = err_from_is_err_and r is in
    subst (λ (x : Result X AdviseFault). IfErr x P) (sym e.1) (subst P (sym e.2) h)
