use Rattle.std.proofs.Common.{map}
use Rattle.sql_bound.specs.Statements.{conjunct_of}
use Rattle.path_costs.proofs.DueLists.{due_more}
use Rattle.path_costs.proofs.due.due_of_all.Goals as goal

pub loop-number-preserved : goal.loop-number-preserved
loop-number-preserved c = λ items p.
    due_more items c.args.item c.loop-number.number
    (map conjunct_of c.args.bound.now.conjuncts.now) c.first_at-wanted.result _ _ _
    (c.first_at-wanted.ensures items p) c.in_ok-push_if.ensures (c.loop-number.invariant items p)
