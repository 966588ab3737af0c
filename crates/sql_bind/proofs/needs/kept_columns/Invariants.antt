use Rattle.std.proofs.Common.{◌≡◌, not, filter}
use Rattle.std.specs.List.{range_with_len}
use Rattle.sql_meaning.specs.OrderState.{is_alias}
use Rattle.sql_bind.specs.Results.{alias_at}
use Rattle.sql_bind.proofs.needs.kept_columns.Given as goal

abbrev pub invariant-loop-column : goal.invariant-loop-column
invariant-loop-column l =
    l.list.items
    ≡ filter (λ column. not (is_alias (alias_at l.scope l.item) column)) (range_with_len 0 l.column)
