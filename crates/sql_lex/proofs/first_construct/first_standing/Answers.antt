use Rattle.std.proofs.Common.{arith, map, refl}
use Rattle.std.proofs.lemmas.List.{length-map}
use Rattle.std.specs.Prelude.{slice_get}
use Rattle.sql_tokens.specs.Terminals.{terminal_of}
use Rattle.sql_lex.proofs.FirstFitting.{first_begin, first_turn, first_over}
use Rattle.sql_lex.proofs.first_construct.first_standing.Goals as goal

pub loop-number-init : goal.loop-number-init
loop-number-init c =
    let seen = map (terminal_of c.args.text.now) c.args.tokens.now in
    let e = first_begin seen c.args.constructs.now _ c.first_context-context.ensures in
    record { context = e.0; same = e.1 }

pub loop-number-preserved : goal.loop-number-preserved
loop-number-preserved c =
    let seen = map (terminal_of c.args.text.now) c.args.tokens.now in
    let n = length-map c.args.tokens.now (terminal_of c.args.text.now) in
    let e =
    first_turn seen c.loop-number.number _ _ _ c.loop-number.found _ _ (slice_get seen 0)
    c.loop-number.context _ _ (omega (arith, n, c.loop-number-test.true))
    c.loop-number.invariant.context c.first_fitting-fitting.ensures.same
    c.construct_or-found.ensures refl c.peek.ensures c.context_behind-context.ensures
    c.loop-number.invariant.same in
    record { context = e.0; same = e.1 }

pub returns : goal.returns
returns c =
    let seen = map (terminal_of c.args.text.now) c.args.tokens.now in
    let n = length-map c.args.tokens.now (terminal_of c.args.text.now) in
    first_over seen c.loop-number.number _ _ _ (slice_get seen 0) _
    (omega (arith, n, c.loop-number-test.false)) c.loop-number.invariant.same
