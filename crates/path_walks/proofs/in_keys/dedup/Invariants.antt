use Rattle.std.proofs.Common.{◌≡◌, ◌++◌, ◌∷◌, drop}
use Rattle.std.specs.Ordering.{eq_by_cmp}
use Rattle.list_laws.specs.FirstComing.{dedup_behind}
use Rattle.sql_meaning.specs.IndexLists.{column_cmp}
use Rattle.sql_value.specs.View.{plain_value}
use Rattle.path_walks.specs.Columns.{plain_sort_column}
use Rattle.path_walks.specs.Keys.{lent_values}
use Rattle.path_walks.proofs.in_keys.dedup.Given as goal

abbrev pub invariant-loop-key : goal.invariant-loop-key
invariant-loop-key l =
    lent_values l.kept.items
    ++ dedup_behind (eq_by_cmp (column_cmp (plain_sort_column l.column))) (plain_value l.last)
    (lent_values (drop l.key-index l.rest))
    ≡ plain_value l.first ∷ dedup_behind (eq_by_cmp (column_cmp (plain_sort_column l.column)))
    (plain_value l.first) (lent_values l.rest)
