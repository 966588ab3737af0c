use Rattle.std.proofs.Common.{refl, ap, ◌∙◌, arith, length, length-drop, map}
use Rattle.std.proofs.lemmas.List.{length-map}
use Rattle.sql_tokens.specs.Terminals.{terminal_of}
use Rattle.sql_lex.specs.Statements.{run_len, statements_of}
use Rattle.sql_lex.proofs.StatementSteps.{turn, ended, seen_rest}
use Rattle.sql_lex.proofs.statement_runs.statements.Goals as goal

pub loop-start-init : goal.loop-start-init
unfolding statements_of
loop-start-init c = rw c.new-spans.ensures (record { inside = omega arith; same = refl })

pub loop-start-preserved : goal.loop-start-preserved
loop-start-preserved c =
    let see = terminal_of c.args.text.now in
    let tokens = c.as_slice-tokens.result.now in
    let n = c.loop-start.start in
    let seen = seen_rest see n tokens _ c.tokens_from.ensures in
    record {
      inside = omega (
        arith,
        length-drop n tokens,
        ap length c.tokens_from.ensures,
        c.front_run-run.ensures.inside,
        c.max-start.ensures,
      );
      same =
          rw c.max-start.ensures
          (turn (map see tokens) _ _ _ n _
          (omega (arith, c.loop-start-test.true, length-map tokens see))
          (c.front_run-run.ensures.same ∙ ap run_len seen)
          c.in_ok-push_run.ensures c.loop-start.invariant.same);
    }

pub returns : goal.returns
returns c =
    let see = terminal_of c.args.text.now in
    let tokens = c.as_slice-tokens.result.now in
    ended (map see tokens) _ _ c.loop-start.start
    (omega (arith, c.loop-start-test.false, length-map tokens see)) c.loop-start.invariant.same
    ∙ ap (statements_of c.args.text.now) c.as_slice-tokens.ensures
