use Rattle.sql_tree.specs.Statements.{key_tree}
use Rattle.sql_bound.specs.Statements.{sort_key_of}
use Rattle.sql_bind.specs.Keys.{key_checks, sort_key}
use Rattle.sql_bind.specs.Views.{results_seen}
use Rattle.sql_bind.proofs.Turns.{exits, part_fails, part_passes, part_pushed}
use Rattle.sql_bind.proofs.keys.bind_keys.Goals as goal

pub returns-in_err-bound : goal.returns-in_err-bound
returns-in_err-bound c =
    exits _ c.from_residual-in_err-bound.result c.in_err-bound.field-0.0 _ _
    c.from_residual-in_err-bound.ensures.1
    (part_fails key_tree (key_checks c.args.scope.now (results_seen c.args.results.now))
    c.args.keys.now c.loop-key.key-index _ c.loop-key-test.true _ c.loop-key.invariant.checks
    c.in_err-bound.field-0.0 c.in_err-bound.ensures)

pub loop-key-preserved : goal.loop-key-preserved
loop-key-preserved c = record {
  checks = part_passes key_tree (key_checks c.args.scope.now (results_seen c.args.results.now))
      c.args.keys.now c.loop-key.key-index _ c.loop-key-test.true _ c.loop-key.invariant.checks
      c.in_ok-bound.ensures.0;
  made = part_pushed key_tree (sort_key c.args.scope.now (results_seen c.args.results.now))
      sort_key_of c.args.keys.now c.loop-key.key-index _ c.loop-key-test.true
      c.loop-key.list.items _ c.loop-key.invariant.made c.in_ok-bound.bound
      c.in_ok-bound.ensures.1 c.push.new.list.items c.in_ok-push.ensures.ok;
}
