use Rattle.std.proofs.Common.{◌<◌, List, length, sym, subst, refl, arith}
use Rattle.sql_lex.specs.Depth.{IsBased, depth_of, depth_steps}
use Rattle.sql_lex.specs.declared.depth.Level.{Level}
use Rattle.sql_lex.proofs.LevelStacks.{based_length, based_next, some_next, base_based}
use Rattle.sql_lex.proofs.LevelStacks.{now, later, over, length-depth_steps}
use Rattle.sql_lex.proofs.depth.too_deep.Goals as goal

pub loop-number-init : goal.loop-number-init
unfolding depth_of
loop-number-init c =
    rw c.new-levels.ensures
    (record { some = omega arith; small = omega arith; based = base_based; same = refl })

pub take_step-requires-clause-room : goal.take_step-requires-clause-room
take_step-requires-clause-room c =
    let a = based_length _ c.loop-number.invariant.based in
    omega (arith, a, c.loop-number.invariant.small)

pub returns-then-sum-gt-DEPTH_LIMIT : goal.returns-then-sum-gt-DEPTH_LIMIT
returns-then-sum-gt-DEPTH_LIMIT c =
    let n = length-depth_steps c.args.text.now c.args.tokens.now in
    now (depth_steps c.args.text.now c.args.tokens.now) c.loop-number.number
    c.loop-number.levels _ _ _ (omega (arith, n, c.loop-number-test.true)) c.step_at.ensures
    c.take_step.ensures (omega (arith, c.sum.ensures)) c.loop-number.invariant.same

pub loop-number-preserved : goal.loop-number-preserved
loop-number-preserved c =
    let n = length-depth_steps c.args.text.now c.args.tokens.now in
    let e = c.take_step.ensures in
    record {
      some =
          subst (λ (q : List Level). 0 < length q) (sym e)
          (some_next _ _ c.loop-number.invariant.some);
      small = omega (arith, c.sum.ensures);
      based = subst IsBased (sym e) (based_next _ _ c.loop-number.invariant.based);
      same =
          later (depth_steps c.args.text.now c.args.tokens.now) c.loop-number.number
          c.loop-number.levels _ _ _ (omega (arith, n, c.loop-number-test.true))
          c.step_at.ensures e (omega (arith, c.sum.ensures)) c.loop-number.invariant.same;
    }

pub returns : goal.returns
returns c =
    let n = length-depth_steps c.args.text.now c.args.tokens.now in
    over (depth_steps c.args.text.now c.args.tokens.now) c.loop-number.number
    c.loop-number.levels _ (omega (arith, n, c.loop-number-test.false))
    c.loop-number.invariant.same
