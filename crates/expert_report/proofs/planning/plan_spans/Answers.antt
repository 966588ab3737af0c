use Rattle.std.proofs.Common.{◌≡◌, ◌+◌, ◌++◌, List, [], ◌∷◌, ap, ◌∙◌, map, drop, subst}
use Rattle.std.proofs.Math.ListN.{get_or}
use Rattle.sql_tokens.specs.declared.token.Token.{Token}
use Rattle.sql_lex.specs.declared.statement_runs.Span.{Span}
use Rattle.expert_report.specs.Planning.{EachPlanMeans, MarksPlans, told_over}
use Rattle.expert_report.specs.Readings.{run_statements, script_statement}
use Rattle.expert_report.specs.declared.outcomes.StatementReport.{StatementReport}
use Rattle.expert_report.proofs.Marks.{marks_then, means_then}
use Rattle.expert_report.proofs.Rests.{left_at, made_more}
use Rattle.expert_report.proofs.planning.plan_spans.Goals as goal

pub loop-span-preserved : goal.loop-span-preserved
loop-span-preserved c =
    let ground = c.args.ground.now in
    let at = run_statements ground.own.now c.args.text.now c.args.tokens.now in
    let none : Span = record { first = 0; end = 0 } in
    let span = get_or c.args.spans.now c.loop-span.span-index none in
    let rest = at (drop (c.loop-span.span-index + 1) c.args.spans.now) in
    let first = at (span ∷ []) in
    let here = left_at c.args.spans.now c.loop-span.span-index none c.loop-span-test.true in
    let told = told_over ground in
    let says = script_statement ground.own.now c.args.text.now in
    record {
      told = made_more told c.loop-span.told _ _ first rest
          (c.in_ok-push.ensures.ok
          ∙ ap (λ (r : StatementReport). c.loop-span.told ++ r ∷ [])
          (c.in_ok-plan_run.ensures.told
          ∙ ap (λ (run : List Token). told (says run)) c.run_tokens.ensures))
          (subst (λ (zs : List Span). c.loop-span.told ++ map told (at zs)
          ≡ c.args.told.now ++ map told (at c.args.spans.now)) here
          c.loop-span.invariant.told);
      means = λ h. subst (λ (zs : List Span). EachPlanMeans ground (at zs)
          → EachPlanMeans ground (at c.args.spans.now)) here c.loop-span.invariant.means
          (means_then ground first rest
          (subst (λ (run : List Token). EachPlanMeans ground (says run ∷ [])) c.run_tokens.ensures
          c.in_ok-plan_run.ensures.means) h);
      uses = λ flags h. subst (λ (zs : List Span). MarksPlans ground c.loop-span.uses flags (at zs)
          → MarksPlans ground c.args.uses.now flags (at c.args.spans.now)) here
          (c.loop-span.invariant.uses flags)
          (marks_then ground c.loop-span.uses c.plan_run.new.uses flags first rest
          (subst (λ (run : List Token). MarksPlans ground c.loop-span.uses c.plan_run.new.uses
          (says run ∷ [])) c.run_tokens.ensures c.in_ok-plan_run.ensures.uses) h);
    }
