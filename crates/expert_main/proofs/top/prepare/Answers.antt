use Rattle.std.proofs.Common.{sym}
use Rattle.std.proofs.lemmas.Result.{err_from_is_err_and}
use Rattle.expert_main.specs.Seen.{seen_command}
use Rattle.expert_main.proofs.Told.{database_declines, database_reads}
use Rattle.expert_main.proofs.top.prepare.Goals as goal

pub returns-in_err-database-clause-err : goal.returns-in_err-database-clause-err
returns-in_err-database-clause-err g c =
    let e = err_from_is_err_and c.from_residual.result c.from_residual.ensures.1 in
    rw (e.1, e.2)
    (database_declines c.args.words.now _ (seen_command c.in-Some.command) _ _ _
    (sym c.in-Some.ensures.command) c.in_err-database.ensures.reason
    c.in_err-database.ensures.blames)

pub returns-in_err-database-clause-reads : goal.returns-in_err-database-clause-reads
returns-in_err-database-clause-reads g c =
    let e = err_from_is_err_and c.from_residual.result c.from_residual.ensures.1 in
    rw (e.1, e.2)
    (database_reads c.args.words.now _ (seen_command c.in-Some.command) _ _ _
    (sym c.in-Some.ensures.command) c.in_err-database.ensures.reason c.in_err-database.ensures.only
    c.read_database.ensures.later c.in_err-database.ensures.failed c.in_err-database.ensures.lacks)
