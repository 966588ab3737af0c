use Rattle.std.proofs.Common.{◌≤◌, ap, sym, ◌∙◌, arith, length, length-drop, map}
use Rattle.std.proofs.lemmas.List.{length-map}
use Rattle.sql_tokens.specs.Terminals.{terminal_of}
use Rattle.sql_lex.specs.Statements.{ends_trigger}
use Rattle.sql_lex.proofs.StatementSteps.{trigger_turn, trigger_end, trigger_end_len, trigger_over}
use Rattle.sql_lex.proofs.StatementSteps.{seen_rest}
use Rattle.sql_lex.proofs.statement_runs.trigger_run.Goals as goal

pub loop-number-preserved : goal.loop-number-preserved
loop-number-preserved c =
    let see = terminal_of c.args.text.now in
    let n = c.loop-number.number in
    let seen = seen_rest see n c.args.tokens.now _ c.tokens_from.ensures in
    c.loop-number.invariant
    ∙ trigger_turn (map see c.args.tokens.now) n
    (omega (arith, c.loop-number-test.true, length-map c.args.tokens.now see))
    (sym (c.ends_trigger.ensures ∙ ap ends_trigger seen) ∙ c.if-ends_trigger.false)

pub returns-then-ends_trigger-clause-inside : goal.returns-then-ends_trigger-clause-inside
returns-then-ends_trigger-clause-inside c =
    let see = terminal_of c.args.text.now in
    let three = trigger_end_len _ (sym c.ends_trigger.ensures ∙ c.if-ends_trigger.true) in
    omega (
      arith,
      three,
      length-map c.tokens_from.result.now see,
      ap length c.tokens_from.ensures,
      length-drop c.loop-number.number c.args.tokens.now,
    )

pub returns-then-ends_trigger-clause-same : goal.returns-then-ends_trigger-clause-same
returns-then-ends_trigger-clause-same c =
    let see = terminal_of c.args.text.now in
    let n = c.loop-number.number in
    let seen = seen_rest see n c.args.tokens.now _ c.tokens_from.ensures in
    let two =
    trigger_end (map see c.args.tokens.now) n
    (omega (arith, c.loop-number-test.true, length-map c.args.tokens.now see))
    (sym (c.ends_trigger.ensures ∙ ap ends_trigger seen) ∙ c.if-ends_trigger.true) in
    omega (arith, two, c.loop-number.invariant)

pub returns-clause-same : goal.returns-clause-same
returns-clause-same c =
    let see = terminal_of c.args.text.now in
    let tokens = c.args.tokens.now in
    let whole : length (map see tokens) ≤ c.loop-number.number
    = omega (arith, c.loop-number-test.false, length-map tokens see) in
    let over = trigger_over (map see tokens) c.loop-number.number whole in
    omega (arith, over, c.loop-number.invariant, c.loop-number-test.false)
