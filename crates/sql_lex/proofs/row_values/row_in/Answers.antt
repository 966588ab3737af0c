use Rattle.std.proofs.Common.{refl, ◌∙◌, arith}
use Rattle.sql_lex.specs.Rows.{start, next_state, row_in, row_steps}
use Rattle.sql_lex.proofs.RowWindows.{row_hit, row_turn, row_end}
use Rattle.sql_lex.proofs.RowPasses.{length-row_steps}
use Rattle.sql_lex.proofs.row_values.row_in.Goals as goal

pub loop-number-init : goal.loop-number-init
unfolding row_in
loop-number-init c = record {
  same = refl;
  depth = omega arith;
  follows = (start, (record { depth = refl; after = refl; kept = tt }, refl));
}

pub returns-then-finds : goal.returns-then-finds
returns-then-finds c =
    let steps = row_steps c.args.text.now c.args.tokens.now in
    let n = length-row_steps c.args.text.now c.args.tokens.now in
    let f = c.loop-number.invariant.follows in
    row_hit c.args.base _ f.0 steps c.loop-number.number _ _ _
    (omega (arith, n, c.loop-number-test.true))
    c.loop-number.invariant.same c.step_at-step.ensures
    (c.finds.ensures f.0 f.1.0) c.if-finds.true f.1.1

pub loop-number-preserved : goal.loop-number-preserved
loop-number-preserved c =
    let steps = row_steps c.args.text.now c.args.tokens.now in
    let n = length-row_steps c.args.text.now c.args.tokens.now in
    let f = c.loop-number.invariant.follows in
    record {
      same = c.take_step.ensures.same ∙ c.loop-number.invariant.same;
      depth = omega (arith, c.take_step.ensures.depth, c.loop-number.invariant.depth);
      follows = (
        next_state _ f.0,
        (
          c.take_step.ensures.follows f.0 f.1.0,
          row_turn c.args.base _ f.0 steps c.loop-number.number _ _ _
              (omega (arith, n, c.loop-number-test.true))
              c.loop-number.invariant.same c.step_at-step.ensures
              (c.finds.ensures f.0 f.1.0) c.if-finds.false f.1.1,
        ),
      );
    }

pub returns : goal.returns
returns c =
    let steps = row_steps c.args.text.now c.args.tokens.now in
    let n = length-row_steps c.args.text.now c.args.tokens.now in
    let f = c.loop-number.invariant.follows in
    row_end c.args.base f.0 steps c.loop-number.number _
    (omega (arith, n, c.loop-number-test.false)) f.1.1
