use Rattle.std.proofs.Common.{subst}
use Rattle.plan_choice.specs.CostLaws.{ArePlain}
use Rattle.plan_form.specs.declared.path.Path.TheVariants.{TableScan}
use Rattle.path_costs.proofs.Joining.{IsJoining, joining_more, left_more}
use Rattle.path_costs.proofs.unions.joined_all.Goals as goal

pub loop-branch-preserved : goal.loop-branch-preserved
loop-branch-preserved c =
    let next = left_more c.args.further.now c.loop-branch.branch-index
    (record { ref_ptr = (0, 0); now = TableScan }) c.loop-branch-test.true in
    let before = subst (IsJoining c.args.figures.now c.args.table _ c.loop-branch.size) next
    c.loop-branch.invariant.joining in
    record {
      joining = joining_more c.args.figures.now c.args.table _ c.loop-branch.size
          c.joined-size.result _ _ before c.plain_size.ensures.small
          (c.joined-size.ensures before.so_far _ before.told c.plain_size.ensures.told);
      plain = (subst ArePlain next c.loop-branch.invariant.plain).1;
    }
