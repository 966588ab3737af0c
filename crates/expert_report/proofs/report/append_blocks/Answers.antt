use Rattle.std.proofs.Common.{◌+◌, ap, arith}
use Rattle.expert_report.proofs.Blocks.{next_block}
use Rattle.expert_report.proofs.report.append_blocks.Goals as goal

pub loop-statement-preserved : goal.loop-statement-preserved
loop-statement-preserved c = (
  ap (λ n. n + 1) c.loop-statement.invariant.0,
  next_block c.args.verbose c.args.candidates.now _ _ _ c.args.statements.now
      c.loop-statement.statement-index (c.loop-statement.number + 1) c.statement-item.result
      (omega (arith, c.loop-statement-test.true)) c.statement-item.is
      c.in_ok-append_block.ensures c.loop-statement.invariant.1,
)
