use Rattle.sql_tree.specs.Statements.{set_tree}
use Rattle.sql_bind.specs.Conditions.{set_checks}
use Rattle.sql_bind.proofs.Turns.{exits, part_fails, part_passes}
use Rattle.sql_bind.proofs.conditions.check_sets.Goals as goal

pub returns-in_err-check_set : goal.returns-in_err-check_set
returns-in_err-check_set c =
    exits _ c.from_residual.result c.in_err-check_set.field-0.0 _ _ c.from_residual.ensures.1
    (part_fails set_tree (set_checks c.args.scope.now) c.args.sets.now
    c.loop-column.column-index _ c.loop-column-test.true _ c.loop-column.invariant
    c.in_err-check_set.field-0.0 c.in_err-check_set.ensures)

pub loop-column-preserved : goal.loop-column-preserved
loop-column-preserved c =
    part_passes set_tree (set_checks c.args.scope.now) c.args.sets.now
    c.loop-column.column-index _ c.loop-column-test.true _ c.loop-column.invariant
    c.in_ok-check_set.ensures.0
