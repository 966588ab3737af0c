use Rattle.std.proofs.Common.{◌≡◌, subst, arith}
use Rattle.std.proofs.lemmas.Result.{err_from_is_err_and}
use Rattle.expert_main.specs.Refusals.{of_advice, ran_of}
use Rattle.expert_main.specs.Run.{run_dump}
use Rattle.expert_main.specs.Scripts.{script_limit}
use Rattle.expert_main.specs.Seen.{seen_command}
use Rattle.expert_main.proofs.Dumped.{advice_blames, finds, reads, refuses_advice, refuses_dump}
use Rattle.expert_main.proofs.Scripts.{each_short}
use Rattle.expert_main.proofs.answer.answer_texts.Goals as goal

pub returns-in_err-dump-clause-refused : goal.returns-in_err-dump-clause-refused
returns-in_err-dump-clause-refused c =
    let e = err_from_is_err_and c.from_residual.result c.from_residual.ensures.1 in
    rw (e.1, e.2)
    (refuses_dump (seen_command c.args.command.now) c.args.database.now c.args.script.now
    c.in_err-dump.field-0.0 c.in_err-dump.ensures.fault)

pub advise-requires-clause-pieces : goal.advise-requires-clause-pieces
advise-requires-clause-pieces c =
    each_short script_limit _ c.args.script.now (omega arith) c.requires.script

pub returns-in_err-report-clause-refused : goal.returns-in_err-report-clause-refused
returns-in_err-report-clause-refused c =
    let e = err_from_is_err_and c.from_residual-in_err-report.result
    c.from_residual-in_err-report.ensures.1 in
    rw (e.1, e.2) (λ other.
    subst (λ dump. run_dump (seen_command c.args.command.now) dump c.args.script.now
    ≡ ran_of (of_advice c.in_err-report.field-0.0))
    (reads c.args.database.now _ c.in_ok-dump.ensures.same)
    (refuses_advice (seen_command c.args.command.now) _ c.args.script.now
    c.in_err-report.field-0.0 c.in_ok-dump.ensures.few c.in_err-report.ensures.fault other))

pub returns-in_err-report-clause-known : goal.returns-in_err-report-clause-known
returns-in_err-report-clause-known c =
    let e = err_from_is_err_and c.from_residual-in_err-report.result
    c.from_residual-in_err-report.ensures.1 in
    rw (e.1, e.2) (advice_blames c.in_err-report.field-0.0)

pub returns-clause-found : goal.returns-clause-found
returns-clause-found c =
    finds (seen_command c.args.command.now) c.args.database.now c.args.script.now _
    c.in_ok-report.report c.in_ok-printed.field-0
    (reads c.args.database.now _ c.in_ok-dump.ensures.same) c.in_ok-dump.ensures.few
    c.in_ok-report.ensures.report c.in_ok-report.ensures.sound c.in_ok-printed.ensures
