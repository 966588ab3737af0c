use Rattle.sql_bound.proofs.Standings.{common_known}
use Rattle.sql_bound.proofs.serving.first_at.Goals as goal

pub returns-in-None : goal.returns-in-None
returns-in-None c = λ items p.
    rw (c.is_known.ensures, c.expr_standing.ensures)
    (common_known c.args.bound.now.conjuncts.now c.args.conjunct c.args.placed c.args.item _
    c.requires.conjunct c.in-None.is items p)
