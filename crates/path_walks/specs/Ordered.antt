-- Rows in the order of what a list is sorted by.
use Rattle.std.specs.Prelude.{Option, Some, None, List}
use Rattle.std.specs.Ordering.{on}
use Rattle.list_laws.specs.Order.{Ascends}
use Rattle.sql_meaning.specs.Rows.{Row, site_value}
use Rattle.sql_meaning.specs.IndexLists.{SortColumn, column_cmp, entry_cmp}

-- the list of an index of these columns, or a part of it
abbrev pub AreEntries : List SortColumn → List Row → Type 0
AreEntries columns rows = Ascends (entry_cmp columns) rows

-- what the rows have in the column rises, or falls where the column does
abbrev pub FollowColumn : SortColumn → List Row → Type 0
FollowColumn s rows = Ascends (on (site_value s.site) (column_cmp s)) rows

-- the same where there is a column
abbrev pub FollowNext : Option SortColumn → List Row → Type 0
FollowNext None rows = Unit {0}
FollowNext (Some s) rows = FollowColumn s rows
