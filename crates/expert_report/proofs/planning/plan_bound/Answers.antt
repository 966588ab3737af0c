use Rattle.std.proofs.Common.{sym, ◌∙◌}
use Rattle.sql_bound.specs.Statements.{bound_of, needs_of}
use Rattle.expert_report.proofs.planning.plan_bound.Goals as goal

pub plan_statement-requires-clause-ready : goal.plan_statement-requires-clause-ready
plan_statement-requires-clause-ready c =
    let ground = c.args.ground.now in
    let bound = c.args.statement.now.bound.now in
    let over = c.requires.over in
    let ready = c.requires.ready in
    let kept = c.statements_keep_with_candidates.ensures in
    record {
      fits = kept.fits ground.own.now ground.full.now (bound_of bound) (needs_of bound) over.full
          ready.fits;
      indexes = over.indexes;
      terms = ready.terms
          ∙ sym (kept.terms ground.own.now ground.full.now (bound_of bound) over.full);
      marked = ready.marked;
    }
