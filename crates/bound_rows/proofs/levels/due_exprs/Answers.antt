use Rattle.std.proofs.Common.{ap, ◌∙◌, map}
use Rattle.sql_bound.specs.Expressions.{expr_of}
use Rattle.sql_bound.specs.Statements.{conjunct_of}
use Rattle.bound_rows.specs.Readable.{lent_exprs}
use Rattle.bound_rows.proofs.DueExprs.{due_more, seen_pushed}
use Rattle.bound_rows.proofs.levels.due_exprs.Goals as goal

pub loop-number-preserved : goal.loop-number-preserved
loop-number-preserved c = λ items numbers p m.
    due_more c.args.owned numbers items c.args.item c.loop-number.number
    (map conjunct_of c.args.bound.now.conjuncts.now) (conjunct_of c.conjunct_at.result)
    c.is_due-wanted.result (lent_exprs c.loop-number.due.items) _ _ c.conjunct_at.ensures
    (c.is_due-wanted.ensures items numbers p m)
    (ap lent_exprs c.in_ok-push_if.ensures
    ∙ seen_pushed (λ e. expr_of e.now) c.is_due-wanted.result c.loop-number.due.items
    c.conjunct_at.result.expr)
    (c.loop-number.invariant items numbers p m)
