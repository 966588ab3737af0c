-- Which rows stand on a side of a key or a range.
use Rattle.std.specs.Prelude.{Bool}
use Rattle.std.specs.Ordering.{is_lt, is_gt}
use Rattle.sql_meaning.specs.Rows.{Row, site_value}
use Rattle.sql_meaning.specs.IndexLists.{column_cmp}
use Rattle.sql_meaning.specs.Walks.{is_below, is_above}
use Rattle.sql_value.specs.View.{plain_value, plain_collation}
use Rattle.path_walks.specs.Columns.{site_of, plain_sort_column}
use Rattle.path_walks.specs.Ends.{plain_end}
use Rattle.path_walks.specs.declared.stretches.Side.{Side}
use Rattle.path_walks.specs.declared.stretches.Side.TheVariants.{Before, After, Below, Above}

abbrev pub stands_on : Side → Row → Bool
stands_on (Before column key) row =
    is_lt
    (column_cmp (plain_sort_column column) (site_value (site_of column.column) row)
    (plain_value key.now))
stands_on (After column key) row =
    is_gt
    (column_cmp (plain_sort_column column) (site_value (site_of column.column) row)
    (plain_value key.now))
stands_on (Below column low) row =
    is_below (plain_collation column.coll) (plain_end low) (site_value (site_of column.column) row)
stands_on (Above column high) row =
    is_above (plain_collation column.coll) (plain_end high) (site_value (site_of column.column) row)
