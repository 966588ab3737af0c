use Rattle.std.proofs.Common.{◌<◌, length}
use Rattle.sql_tree.specs.Statements.{source_tree}
use Rattle.sql_bind.specs.Sources.{table_checks, named_item}
use Rattle.sql_bind.specs.Views.{named_of}
use Rattle.list_laws.proofs.Lists.{all_push}
use Rattle.sql_bind.proofs.Turns.{exits, part_fails, part_passes, part_pushed}
use Rattle.sql_bind.proofs.sources.find_items.Goals as goal

pub returns-in_err-named-clause-answer : goal.returns-in_err-named-clause-answer
returns-in_err-named-clause-answer c =
    exits _ c.from_residual.result c.in_err-named.field-0.0 _ _ c.from_residual.ensures.1
    (part_fails source_tree (table_checks c.args.schema.now) c.args.sources.now
    c.loop-source.source-index _ c.loop-source-test.true _ c.loop-source.invariant.checks
    c.in_err-named.field-0.0 c.in_err-named.ensures.answer)

pub loop-source-preserved : goal.loop-source-preserved
loop-source-preserved c = record {
  checks = part_passes source_tree (table_checks c.args.schema.now) c.args.sources.now
      c.loop-source.source-index _ c.loop-source-test.true _ c.loop-source.invariant.checks
      c.in_ok-named.ensures.answer.0;
  made = part_pushed source_tree (named_item c.args.schema.now) named_of c.args.sources.now
      c.loop-source.source-index _ c.loop-source-test.true c.loop-source.list.items _
      c.loop-source.invariant.made c.in_ok-named.named c.in_ok-named.ensures.answer.1
      c.push.new.list.items c.in_ok-push.ensures.ok;
  there = rw c.in_ok-push.ensures.ok
      (all_push (λ n. n.item.table < length c.args.schema.now.tables) c.loop-source.list.items
      c.in_ok-named.named c.loop-source.invariant.there c.in_ok-named.ensures.there);
}
