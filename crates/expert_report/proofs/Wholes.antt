-- What is planned over the schema with all candidates is what is defined.
use Rattle.std.proofs.Common.{◌≡◌, ◌-◌, ◌+◌, ◌≤◌, ℕ, List, [], ◌∷◌, refl, sym, ap, ◌∙◌, arith}
use Rattle.std.proofs.Common.{drop, take, length, length-drop, map, subst}
use Rattle.std.specs.List.{AllByRecursion}
use Rattle.std.proofs.lemmas.List.{length-map}
use Rattle.sql_meaning.specs.Asked.{Means}
use Rattle.sql_meaning.specs.Schemas as plain
use Rattle.plan_choice.specs.Advice.{Request, advice, full_figures, full_schema, used_of}
use Rattle.plan_choice.specs.Choice.{Chosen, choose}
use Rattle.plan_choice.specs.Figures.{Figures}
use Rattle.plan_choice.specs.Settings.{Statement, setting}
use Rattle.schema_model.specs.PlainSchemas.{plain_index, plain_schema}
use Rattle.schema_model.specs.Schemas.{Schema}
use Rattle.schema_read.specs.declared.state.State.{State}
use Rattle.stat_figures.specs.declared.sources.StatSource.{StatSource}
use Rattle.expert_advice.specs.Lines.{candidate_lines}
use Rattle.expert_advice.specs.declared.lines.CandidateLine.{CandidateLine}
use Rattle.expert_report.specs.Advice.{chosen, request_on, statement_report}
use Rattle.expert_report.specs.Planning.{AdviceMeans, EachPlanMeans, IsMeant, plan_over}
use Rattle.expert_report.specs.Planning.{report_by, told_over}
use Rattle.expert_report.specs.Readings.{ScriptStatement, bound_in}
use Rattle.expert_report.specs.declared.outcomes.Report.{Report}
use Rattle.expert_report.specs.declared.outcomes.StatementReport.{StatementReport}
use Rattle.expert_report.specs.declared.planning.Ground.{Ground}

pub figures_as_meant : (r : Request) (full : Schema) (figures : Figures)
    → plain_schema full ≡ full_schema r → figures ≡ full_figures r (plain_schema full)
    → figures ≡ (advice r).figures
figures_as_meant r full figures schema are = are ∙ ap (full_figures r) schema

pub plans_as_meant : (r : Request) (ground : Ground) → plain_schema ground.full.now ≡ full_schema r
    → ground.figures.now ≡ (advice r).figures → plan_over ground ≡ chosen r
unfolding plan_over
plans_as_meant r ground schema figures =
    let by : plain.Schema → Figures → Statement → Chosen = λ s f st. choose (setting s f st) in
    ap (by (plain_schema ground.full.now)) figures
    ∙ ap (λ (s : plain.Schema). by s (advice r).figures) schema

-- how many candidates there are
pub candidates_are : (r : Request) (own full : Schema) → r.schema ≡ plain_schema own
    → plain_schema full ≡ full_schema r
    → length full.indexes - length own.indexes ≡ length (advice r).candidates
candidates_are r own full is schema =
    let all = length-map full.indexes plain_index in
    let few = length-map own.indexes plain_index in
    let these : length (drop (length (plain_schema own).indexes) (plain_schema full).indexes)
    ≡ length (advice r).candidates =
    ap (λ (s : plain.Schema). length (drop (length s.indexes) (plain_schema full).indexes)) (sym is)
    ∙ ap (λ (s : plain.Schema). length (drop (length r.schema.indexes) s.indexes)) schema in
    let count = length-drop (length (plain_schema own).indexes) (plain_schema full).indexes in
    omega (arith, all, few, these, count)

-- the recommended candidates
pub recommended_as_meant : (r : Request) (own full : Schema) (plan : Statement → Chosen)
    → r.schema ≡ plain_schema own → plain_schema full ≡ full_schema r → plan ≡ chosen r
    → used_of (length own.indexes) (length full.indexes - length own.indexes)
    (map plan r.statements)
    ≡ (advice r).recommended
recommended_as_meant r own full plan is schema plans =
    let own_count : length own.indexes ≡ length r.schema.indexes =
    sym (length-map own.indexes plain_index) ∙ ap (λ (s : plain.Schema). length s.indexes) (sym is) in
    ap (λ (n : ℕ). used_of n (length full.indexes - length own.indexes) (map plan r.statements))
    own_count
    ∙ ap (λ (n : ℕ). used_of (length r.schema.indexes) n (map plan r.statements))
    (candidates_are r own full is schema)
    ∙ ap (λ (p : Statement → Chosen).
    used_of (length r.schema.indexes) (length (advice r).candidates) (map p r.statements)) plans

-- a schema with candidates has its own indexes
pub own_are_there : {X : Type 0} (own full : List X) → take (length own) full ≡ own
    → length own ≤ length full
own_are_there [] full h = omega arith
own_are_there (x ∷ own) [] h = absurd (cc)
own_are_there (x ∷ own) (y ∷ full) h =
    let both : y ∷ take (length own) full ≡ x ∷ own = h in
    let rest : take (length own) full ≡ own = cc in
    let fewer = own_are_there own full rest in
    omega (arith, fewer)

same_fields : {t t' u u' s s' p p' : ℕ} {cs cs' : List CandidateLine} {rs rs' : List StatementReport}
    {ns ns' : List ℕ} → t ≡ t' → u ≡ u' → s ≡ s' → p ≡ p' → cs ≡ cs' → rs ≡ rs' → ns ≡ ns'
    → ◌≡◌ {A = Report} (record {
      tables = t;
      unread = u;
      statements_passed = s;
      rows_passed = p;
      candidates = cs;
      statements = rs;
      recommended = ns;
    }) (record {
      tables = t';
      unread = u';
      statements_passed = s';
      rows_passed = p';
      candidates = cs';
      statements = rs';
      recommended = ns';
    })
same_fields a b c d e f g = cc

pub report_as_meant : (dump : State) (source : StatSource) (percent : ℕ)
    (statements : List ScriptStatement) (ground : Ground) (report : Report)
    → dump.schema ≡ ground.own.now
    → plain_schema ground.full.now ≡ full_schema (request_on dump source percent statements)
    → ground.figures.now ≡ full_figures (request_on dump source percent statements)
    (plain_schema ground.full.now)
    → report.tables ≡ length dump.schema.tables → report.unread ≡ length dump.schema.unread
    → report.statements_passed ≡ dump.statements_passed → report.rows_passed ≡ dump.rows_passed
    → report.candidates ≡ candidate_lines ground.full.now ground.figures.now
    (length dump.schema.indexes)
    → (made : List StatementReport) → report.statements ≡ made
    → made ≡ map (told_over ground) statements
    → report.recommended ≡ used_of (length dump.schema.indexes)
    (length ground.full.now.indexes - length dump.schema.indexes)
    (map (plan_over ground) (bound_in statements))
    → report ≡ report_by dump source percent statements ground.full.now
report_as_meant dump source percent statements ground report own schema figured tables unread
    statements_passed rows_passed lines made kept told used =
    let r = request_on dump source percent statements in
    let full = ground.full.now in
    let figures = figures_as_meant r full ground.figures.now schema figured in
    let plans = plans_as_meant r ground schema figures in
    let indexes : length ground.own.now.indexes ≡ length dump.schema.indexes =
    ap (λ (s : Schema). length s.indexes) (sym own) in
    same_fields tables unread statements_passed rows_passed
    (lines ∙ ap (λ (f : Figures). candidate_lines full f (length dump.schema.indexes)) figures)
    (kept ∙ told
    ∙ ap (λ (n : ℕ). map (statement_report (plan_over ground) full n) statements) indexes
    ∙ ap (λ (p : Statement → Chosen).
    map (statement_report p full (length dump.schema.indexes)) statements) plans)
    (used ∙ recommended_as_meant r dump.schema full (plan_over ground) refl schema plans)

all_meant : (schema : plain.Schema) (ground : Ground) (plan : Statement → Chosen)
    (sts : List Statement) → plain_schema ground.full.now ≡ schema → plan_over ground ≡ plan
    → AllByRecursion (IsMeant ground) sts
    → AllByRecursion (λ c. Means schema c.plan) (map plan sts)
all_meant schema ground plan [] e f h = tt
all_meant schema ground plan (st ∷ sts) e f h = (
  subst (λ (s : plain.Schema). Means s (plan st).plan) e
      (subst (λ (p : Statement → Chosen). Means (plain_schema ground.full.now) (p st).plan) f h.0.means),
  all_meant schema ground plan sts e f h.1,
)

pub plans_mean : (dump : State) (source : StatSource) (percent : ℕ)
    (statements : List ScriptStatement) (ground : Ground)
    → plain_schema ground.full.now ≡ full_schema (request_on dump source percent statements)
    → ground.figures.now ≡ full_figures (request_on dump source percent statements)
    (plain_schema ground.full.now)
    → EachPlanMeans ground statements → AdviceMeans (request_on dump source percent statements)
plans_mean dump source percent statements ground schema figured mean =
    let r = request_on dump source percent statements in
    let figures = figures_as_meant r ground.full.now ground.figures.now schema figured in
    all_meant (full_schema r) ground (chosen r) (bound_in statements) schema
    (plans_as_meant r ground schema figures) mean
