use Rattle.std.proofs.Common.{◌≡◌, ◌-◌, ◌+◌, ◌++◌, ℕ, Bool, List, [], refl, ap, ◌∙◌, map, length, arith, sym, subst}
use Rattle.plan_choice.specs.Advice.{used_of}
use Rattle.schema_read.specs.Dumps.{seen_dump}
use Rattle.expert_advice.specs.Lines.{candidate_lines}
use Rattle.expert_advice.specs.Uses.{ShowUse}
use Rattle.expert_report.specs.Advice.{script_request}
use Rattle.expert_report.specs.Readings.{bound_in, script_statements}
use Rattle.expert_report.specs.declared.outcomes.Report.{Report}
use Rattle.expert_report.proofs.Wholes.{own_are_there, plans_mean, report_as_meant}
use Rattle.expert_report.proofs.advice.report_over.Goals as goal

pub returns-clause-report : goal.returns-clause-report
unfolding script_request
returns-clause-report c =
    let dump = c.args.dump.now in
    let full = c.args.full.now in
    let statements = script_statements dump.schema c.args.script.now in
    let own = length dump.schema.indexes in
    let count = length full.indexes - own in
    let fewer = own_are_there dump.schema.indexes full.indexes c.requires.full.own in
    let counted : c.index_count.result - c.index_count-own.result ≡ count =
    ap (λ (n : ℕ). n - c.index_count-own.result) c.index_count.ensures
    ∙ ap (λ (n : ℕ). length full.indexes - n) c.index_count-own.ensures in
    let shown = c.in_ok-statements.ensures.uses.marks count [] (omega (arith, fewer))
    (subst (λ (n : ℕ). ShowUse c.in_ok-uses.uses own n []) counted (c.in_ok-uses.ensures own)) in
    let report : Report = record {
      tables = c.table_count.result;
      unread = c.unread_count.result;
      statements_passed = dump.statements_passed;
      rows_passed = dump.rows_passed;
      candidates = c.in_ok-candidate_lines.field-0;
      statements = c.statements.inside.held.items;
      recommended = c.in_ok-listed.field-0;
    } in
    report_as_meant (seen_dump dump) c.args.source c.args.percent statements _ report refl c.requires.meant
    (c.in_ok-figures.ensures.told (bound_in statements)) c.table_count.ensures c.unread_count.ensures
    refl refl
    (c.in_ok-candidate_lines.ensures
    ∙ ap (λ (n : ℕ). candidate_lines full c.in_ok-figures.figures n) c.index_count-own.ensures)
    c.in_ok-statements.statements c.statements.view_is c.in_ok-statements.ensures.told
    (c.in_ok-listed.ensures own count _ shown)

pub returns-clause-means : goal.returns-clause-means
unfolding script_request
returns-clause-means c =
    plans_mean (seen_dump c.args.dump.now) c.args.source c.args.percent
    (script_statements c.args.dump.now.schema c.args.script.now) _ c.requires.meant
    (c.in_ok-figures.ensures.told
    (bound_in (script_statements c.args.dump.now.schema c.args.script.now)))
    c.in_ok-statements.ensures.means
