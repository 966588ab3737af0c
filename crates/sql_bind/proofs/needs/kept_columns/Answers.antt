use Rattle.std.proofs.Common.{ℕ, not, ap, sym, ◌∙◌}
use Rattle.sql_meaning.specs.OrderState.{is_alias}
use Rattle.sql_bind.specs.Results.{alias_at, alias_of}
use Rattle.sql_bind.proofs.Ranges.{kept_yes, kept_no}
use Rattle.sql_bind.proofs.needs.kept_columns.Goals as goal
use Rattle.sql_bind.proofs.needs.kept_columns.Goals.{then-not-is_alias+in_ok-push}
use Rattle.sql_bind.proofs.needs.kept_columns.Goals.{else-not-is_alias}

pub loop-column-preserved : goal.loop-column-preserved
loop-column-preserved c =
    let column = c.loop-column.column in
    let keeps = λ (column : ℕ). not (is_alias (alias_at c.args.scope.now c.args.item) column) in
    let tested = ap (λ t. not (is_alias (alias_of t) column)) c.table-table.ensures.found
    ∙ ap not (sym c.is_alias.ensures) in
    elim c.if-not-is_alias.branch [
      | then-not-is_alias+in_ok-push w ↦
          rw w.list-is
          (kept_yes keeps column c.loop-column.list.items w.push.new.list.items
          c.loop-column.invariant (tested ∙ ap not w.if-not-is_alias.true) w.in_ok-push.ensures.ok)
      | else-not-is_alias w ↦
          rw w.list-is
          (kept_no keeps column c.loop-column.list.items c.loop-column.invariant
          (tested ∙ ap not w.if-not-is_alias.false))
    ]
