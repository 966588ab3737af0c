use Rattle.std.proofs.Common.{arith}
use Rattle.sql_lex.specs.Rows.{row_steps}
use Rattle.sql_lex.proofs.RowPasses.{deepest_turn, deepest_over, length-row_steps}
use Rattle.sql_lex.proofs.row_values.deepest.Goals as goal

pub loop-number-preserved : goal.loop-number-preserved
loop-number-preserved c =
    let steps = row_steps c.args.text.now c.args.tokens.now in
    let n = length-row_steps c.args.text.now c.args.tokens.now in
    record {
      depth = omega (arith, c.depth_behind-depth.ensures.near);
      most = omega (arith, c.depth_behind-depth.ensures.near, c.greater-most.ensures);
      within = omega (arith, c.greater-most.ensures);
      same =
          deepest_turn steps c.loop-number.number c.loop-number.depth _ c.loop-number.most _ _ _
          (omega (arith, n, c.loop-number-test.true)) c.loop-number.invariant.within
          c.step_at.ensures c.depth_behind-depth.ensures.same c.greater-most.ensures
          c.loop-number.invariant.same;
    }

pub returns-clause-same : goal.returns-clause-same
returns-clause-same c =
    let steps = row_steps c.args.text.now c.args.tokens.now in
    let n = length-row_steps c.args.text.now c.args.tokens.now in
    deepest_over steps c.loop-number.number c.loop-number.depth c.loop-number.most _
    (omega (arith, n, c.loop-number-test.false)) c.loop-number.invariant.within
    c.loop-number.invariant.same
