use Rattle.std.proofs.Common.{refl, sym, ◌∙◌, arith}
use Rattle.sql_lex.specs.Rows.{start, has_row_value, row_steps}
use Rattle.sql_lex.proofs.RowPasses.{found_in, none_in, shallow}
use Rattle.sql_lex.proofs.row_values.has_row_value.Goals as goal

pub loop-base-init : goal.loop-base-init
unfolding has_row_value
loop-base-init c = record { small = omega arith; same = refl }

pub returns-then-row_in : goal.returns-then-row_in
returns-then-row_in c =
    let steps = row_steps c.args.text.now c.args.tokens.now in
    sym (found_in c.loop-base.base steps (sym c.row_in.ensures ∙ c.if-row_in.true))
    ∙ c.loop-base.invariant.same

pub loop-base-preserved : goal.loop-base-preserved
loop-base-preserved c =
    let steps = row_steps c.args.text.now c.args.tokens.now in
    record {
      small = omega arith;
      same =
          none_in c.loop-base.base steps (sym c.row_in.ensures ∙ c.if-row_in.false)
          ∙ c.loop-base.invariant.same;
    }

pub returns : goal.returns
returns c =
    let steps = row_steps c.args.text.now c.args.tokens.now in
    sym (shallow c.loop-base.base start steps (omega (arith, c.deepest-most.ensures.same)))
    ∙ c.loop-base.invariant.same
