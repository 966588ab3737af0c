use Rattle.where_terms.proofs.MarkTurns.{keys_turn}
use Rattle.where_terms.proofs.masks.mark_keys.Goals as goal

pub loop-key-preserved : goal.loop-key-preserved
loop-key-preserved c =
    keys_turn c.args.keys.keys.now c.loop-key.key-index _ c.loop-key.marked _ _ c.loop-key-test.true
    c.mark_names-marked.ensures c.loop-key.invariant
