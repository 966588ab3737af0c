use Rattle.std.proofs.Common.{◌∙◌, arith}
use Rattle.schema_text.proofs.Collations.{next}
use Rattle.schema_text.proofs.column_texts.last_collation.Goals as goal

pub loop-place-preserved : goal.loop-place-preserved
loop-place-preserved c =
    let l = c.loop-place in
    record {
      same =
          l.invariant.same
          ∙ next c.args.text.now c.args.rest.now l.level l.place _ l.last c.loop-place-test.true
          c.tokens_from.result.now c.tokens_from.ensures
          c.collation_at_top.result c.collation_at_top.ensures c.later-last.result
          c.later-last.ensures c.next_level-level.result c.next_level-level.ensures.same;
      small = omega (arith, c.next_level-level.ensures.small, l.invariant.small);
    }
