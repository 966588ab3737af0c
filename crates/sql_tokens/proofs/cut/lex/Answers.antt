use Rattle.std.proofs.Common.{◌≤◌, ◌+◌, arith, length, ap, ◌∙◌, length-drop}
use Rattle.sql_tokens.specs.Pieces.{piece_at}
use Rattle.sql_tokens.proofs.CutSteps.{turn, ended}
use Rattle.sql_tokens.proofs.TokenOrder.{in_order-more, in_order-piece}
use Rattle.sql_tokens.proofs.cut.lex.Goals as goal

pub loop-start-preserved : goal.loop-start-preserved
loop-start-preserved c =
    let text = c.args.text.now in
    let start = c.loop-start.start in
    let pushed = c.in_ok-push_piece.ensures in
    let piece = c.front_piece-piece.ensures in
    let inside : start + c.front_piece-piece.result.len ≤ length text =
    omega (arith, length-drop start text, ap length c.rest_from.ensures, piece.inside) in
    record {
      inside = inside;
      in_order = in_order-piece start _ _ _ pushed.same piece.some c.loop-start.invariant.in_order;
      within = pushed.within (length text) inside c.loop-start.invariant.within;
      same =
          turn text _ _ _ start _ c.loop-start-test.true
          (piece.same ∙ ap piece_at c.rest_from.ensures) piece.some pushed.same
          c.loop-start.invariant.same;
    }

pub returns-clause-in_order : goal.returns-clause-in_order
returns-clause-in_order c =
    in_order-more 0 c.loop-start.start (length c.args.text.now) _ c.loop-start.invariant.in_order
    c.loop-start.invariant.inside

pub returns-clause-same : goal.returns-clause-same
returns-clause-same c =
    ended c.args.text.now _ c.loop-start.start c.loop-start.invariant.inside
    c.loop-start-test.false c.loop-start.invariant.same
