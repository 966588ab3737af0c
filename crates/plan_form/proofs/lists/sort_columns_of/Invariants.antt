use Rattle.std.proofs.Common.{◌≡◌, take, map}
use Rattle.index_lists.specs.SortColumns.{sort_column_of}
use Rattle.path_walks.specs.Columns.{plain_sort_column}
use Rattle.plan_form.proofs.lists.sort_columns_of.Given as goal

abbrev pub invariant-loop-column : goal.invariant-loop-column
invariant-loop-column l = map plain_sort_column l.list.items ≡ map sort_column_of (take l.column-index l.columns)
