use Rattle.std.proofs.Common.{◌≡◌, ◌++◌, Some, None, subst}
use Rattle.sql_tree.specs.Statements.{item_tree}
use Rattle.sql_tree.specs.declared.statement.Item.{Item}
use Rattle.sql_names.specs.declared.faults.BindFault.TheVariants.{Memory}
use Rattle.sql_names.specs.Faults.{first_failing}
use Rattle.sql_bind.specs.Results.{entry_checks, results_of}
use Rattle.sql_bind.specs.Views.{results_seen}
use Rattle.sql_bind.proofs.Turns.{exits, part_fails, part_passes, part_made}
use Rattle.sql_bind.proofs.results.bind_results.Goals as goal

pub returns-in_err-push_entry : goal.returns-in_err-push_entry
returns-in_err-push_entry c =
    let fault = c.in_err-push_entry.field-0.0 in
    exits _ c.from_residual.result fault _ _ c.from_residual.ensures.1
    (part_fails item_tree (entry_checks c.args.scope.now) c.args.entries.now
    c.loop-entry.entry-index c.entry-item.result c.loop-entry-test.true _
    c.loop-entry.invariant.checks fault
    (subst
    (λ (x : Item).
    (fault ≡ Memory → ⊥)
    → first_failing (entry_checks c.args.scope.now (item_tree x)) ≡ Some fault)
    c.entry-item.is c.in_err-push_entry.ensures))

pub loop-entry-preserved : goal.loop-entry-preserved
loop-entry-preserved c = record {
  checks = part_passes item_tree (entry_checks c.args.scope.now) c.args.entries.now
      c.loop-entry.entry-index c.entry-item.result c.loop-entry-test.true _
      c.loop-entry.invariant.checks
      (subst
      (λ (x : Item). first_failing (entry_checks c.args.scope.now (item_tree x)) ≡ None)
      c.entry-item.is c.in_ok-push_entry.ensures.0);
  made = part_made item_tree (results_of c.args.scope.now) c.args.entries.now
      c.loop-entry.entry-index c.entry-item.result c.loop-entry-test.true
      (results_seen c.loop-entry.results.items) _ c.loop-entry.invariant.made
      (results_seen c.push_entry.new.results.items)
      (subst
      (λ (x : Item).
      results_seen c.push_entry.new.results.items
      ≡ results_seen c.loop-entry.results.items ++ results_of c.args.scope.now (item_tree x))
      c.entry-item.is c.in_ok-push_entry.ensures.1);
}
