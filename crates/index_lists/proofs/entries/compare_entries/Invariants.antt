use Rattle.std.proofs.Common.{◌≡◌, drop, map}
use Rattle.sql_meaning.specs.IndexLists.{entry_cmp}
use Rattle.schema_model.specs.PlainSchemas.{plain_row}
use Rattle.index_lists.specs.SortColumns.{sort_column_of}
use Rattle.index_lists.proofs.entries.compare_entries.Given as goal

-- the columns so far tie
abbrev pub invariant-loop-column : goal.invariant-loop-column
invariant-loop-column l =
    entry_cmp (map sort_column_of (drop l.column-index l.columns)) (plain_row l.left)
    (plain_row l.right)
    ≡ entry_cmp (map sort_column_of l.columns) (plain_row l.left) (plain_row l.right)
