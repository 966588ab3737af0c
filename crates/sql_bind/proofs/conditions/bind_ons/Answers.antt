use Rattle.std.proofs.Common.{◌+◌, map, ap, ◌∙◌}
use Rattle.sql_bound.specs.Statements.{conjunct_of}
use Rattle.sql_bind.specs.Conditions.{owner_if}
use Rattle.sql_bind.proofs.Turns.{exits}
use Rattle.sql_bind.proofs.Numbered.{on_fails, on_passes, on_made}
use Rattle.sql_bind.proofs.conditions.bind_ons.Goals as goal

pub returns-in_err-bind_condition : goal.returns-in_err-bind_condition
returns-in_err-bind_condition c =
    exits _ c.from_residual.result c.in_err-bind_condition.field-0.0 _ _ c.from_residual.ensures.1
    (on_fails c.args.sources.now c.loop-source.source-index _ c.loop-source-test.true
    c.args.scope.now c.owner_if-owner.result
    (c.owner_if-owner.ensures ∙ ap (owner_if _) c.loop-source.invariant.number) _
    c.loop-source.invariant.checks c.in_err-bind_condition.field-0.0
    c.in_err-bind_condition.ensures)

pub loop-source-preserved : goal.loop-source-preserved
loop-source-preserved c =
    let owner = c.owner_if-owner.ensures ∙ ap (owner_if _) c.loop-source.invariant.number in
    record {
      number = ap (λ n. n + 1) c.loop-source.invariant.number;
      checks = on_passes c.args.sources.now c.loop-source.source-index _ c.loop-source-test.true
          c.args.scope.now c.owner_if-owner.result owner _ c.loop-source.invariant.checks
          c.in_ok-bind_condition.ensures.0;
      made = on_made c.args.sources.now c.loop-source.source-index _ c.loop-source-test.true
          c.args.scope.now c.owner_if-owner.result owner
          (map conjunct_of c.loop-source.terms.items) _ _ c.loop-source.invariant.made
          c.in_ok-bind_condition.ensures.1;
    }
