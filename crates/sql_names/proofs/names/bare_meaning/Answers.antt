use Rattle.std.proofs.Common.{length, sym, ◌∙◌}
use Rattle.sql_names.specs.Scopes.{table_at}
use Rattle.sql_names.specs.Names.{column_in, columns_named}
use Rattle.sql_names.proofs.Columns.{first_item, passed_item}
use Rattle.sql_names.proofs.names.bare_meaning.Goals.{in-Some+else-is_some, in_default}
use Rattle.sql_names.proofs.names.bare_meaning.Goals as goal

pub loop-item-preserved : goal.loop-item-preserved
loop-item-preserved c =
    let scope = c.args.scope.now in
    let lower = c.args.lower.now in
    elim c.match-column_in.branch [
      | in-Some+else-is_some w ↦
          first_item (λ item. column_in item (table_at scope item) lower)
          (columns_named scope lower)
          c.loop-item.item (length scope.items) c.count-item-end.result c.loop-item.found
          c.match-column_in.found c.column_in.result w.in-Some.column c.loop-item-test.true
          c.count-item-end.ensures.count c.column_in.ensures w.in-Some.is
          (sym w.is_some.ensures ∙ w.if-is_some.false) w.found-is c.loop-item.invariant
      | in_default w ↦
          passed_item (λ item. column_in item (table_at scope item) lower)
          (columns_named scope lower)
          c.loop-item.item (length scope.items) c.count-item-end.result c.loop-item.found
          c.match-column_in.found c.column_in.result c.loop-item-test.true
          c.count-item-end.ensures.count c.column_in.ensures w.in_default.is w.found-is
          c.loop-item.invariant
    ]
