-- The lines of a plan (eqp, section 1). A line is said without its line feed.
use Rattle.std.specs.Prelude.{ℕ, Bool, true, false, Option, None, Some, is_some, cond, List, [], ◌∷◌}
use Rattle.std.specs.Prelude.{◌++◌, ◌<◌, ◌==◌, codes, length, map, option_map, slice_get, take}
use Rattle.std.specs.Prelude.{slice_index_or}
use Rattle.std.specs.List.{AllByRecursion, flat_map}
use Rattle.sql_meaning.specs.Paths.{Path, TableScan, RowidEq, RowidRange, IndexScan, IndexSeek}
use Rattle.sql_meaning.specs.Paths.{Union, Paths, Nowhere, Then}
use Rattle.sql_meaning.specs.Plans.{Plan, Loop}
use Rattle.sql_meaning.specs.Statements.{Bound, table_of, is_left}
use Rattle.sql_meaning.specs.Fitting.{FitsTables}
use Rattle.sql_bound.specs.declared.statement.BItem.{BItem}
use Rattle.schema_model.specs.Schemas.{Schema}
use Rattle.schema_model.specs.PlainSchemas.{plain_schema}
use Rattle.schema_model.specs.declared.columns.Column.{Column}
use Rattle.schema_model.specs.declared.indexes.Index.{Index}
use Rattle.schema_model.specs.declared.tables.Table.{Table}

-- the alias of each item of FROM, where one was given
abbrev pub aliases_of : List BItem → List (Option (List ℕ))
aliases_of items = map (λ item. option_map (λ alias. alias.now) item.alias) items

abbrev pub name_of : Option Table → List ℕ
name_of None = []
name_of (Some table) = table.name

abbrev pub with_alias : List ℕ → Option (List ℕ) → List ℕ
with_alias name None = name
with_alias name (Some alias) = name ++ codes " AS " ++ alias

-- an item is told by the name of its table and its alias
abbrev pub shown_item : Schema → BItem → List ℕ
shown_item schema item =
    with_alias (name_of (slice_get schema.tables item.table))
    (option_map (λ alias. alias.now) item.alias)

abbrev pub item_text : Schema → List (Option (List ℕ)) → Bound → ℕ → List ℕ
item_text schema aliases bound item =
    with_alias (name_of (slice_get schema.tables (table_of (slice_get bound.items item))))
    (slice_index_or aliases item None)

abbrev pub column_name : Option Column → List ℕ
column_name None = []
column_name (Some column) = column.name

abbrev pub is_alias : Option ℕ → ℕ → Bool
is_alias None column = false
is_alias (Some alias) column = alias == column

-- a column of a table by its name; an alias of the rowid is told as the rowid
abbrev pub told_column : Table → ℕ → List ℕ
told_column table column =
    cond (is_alias table.alias column) (codes "rowid")
    (column_name (slice_get table.columns column))

abbrev pub told_column_of : Option Table → ℕ → List ℕ
told_column_of None column = []
told_column_of (Some table) column = told_column table column

-- the columns of an index, told
abbrev pub told_columns : Schema → Option Index → List (List ℕ)
told_columns schema None = []
told_columns schema (Some index) =
    map (λ c. told_column_of (slice_get schema.tables index.table) c.column) index.columns

abbrev pub index_name : Option Index → List ℕ
index_name None = []
index_name (Some index) = index.name

-- an index that has all columns that are needed saves the table
abbrev pub using_index : Schema → ℕ → Bool → List ℕ
using_index schema index covering =
    cond covering (codes " USING COVERING INDEX ") (codes " USING INDEX ")
    ++ index_name (slice_get schema.indexes index)

-- the first columns are equal to something
abbrev pub equal_tests : List (List ℕ) → List (List ℕ)
equal_tests names = map (λ name. name ++ codes "=?") names

-- a test where there is a bound; whether it is inclusive isn't told
abbrev pub test_if : Bool → List ℕ → List (List ℕ)
test_if true test = test ∷ []
test_if false test = []

abbrev pub bound_tests : List ℕ → Bool → Bool → List (List ℕ)
bound_tests name low high =
    test_if low (name ++ codes ">?") ++ test_if high (name ++ codes "<?")

-- the tests of a search: what the first columns equal, and the bounds of the next
abbrev pub index_tests : List (List ℕ) → ℕ → Bool → Bool → List (List ℕ)
index_tests names equals low high =
    equal_tests (take equals names) ++ bound_tests (slice_index_or names equals []) low high

-- tests that stand behind others
abbrev pub further : List (List ℕ) → List ℕ
further tests = flat_map (λ t. codes " AND " ++ t) tests

-- tests with ` AND ` between
abbrev pub joined : List (List ℕ) → List ℕ
joined [] = []
joined (test ∷ tests) = test ++ further tests

-- they stand first, or behind others
abbrev pub joined_at : Bool → List (List ℕ) → List ℕ
joined_at first tests = cond first (joined tests) (further tests)

abbrev pub in_parentheses : List (List ℕ) → List ℕ
in_parentheses tests = codes " (" ++ joined tests ++ codes ")"

abbrev pub scan_line : List ℕ → List ℕ
scan_line item = codes "SCAN " ++ item

abbrev pub index_scan_line : Schema → List ℕ → Bool → ℕ → List ℕ
index_scan_line schema item covering index = scan_line item ++ using_index schema index covering

abbrev pub rowid_line : List ℕ → List (List ℕ) → List ℕ
rowid_line item tests =
    codes "SEARCH " ++ item ++ codes " USING INTEGER PRIMARY KEY" ++ in_parentheses tests

abbrev pub seek_line : Schema → List ℕ → Bool → ℕ → ℕ → Bool → Bool → List ℕ
seek_line schema item covering index equals low high =
    codes "SEARCH " ++ item ++ using_index schema index covering
    ++ in_parentheses
    (index_tests (told_columns schema (slice_get schema.indexes index)) equals low high)

-- the walk of an item by a path; the branches of a union have lines of their own
abbrev pub path_line : Schema → List ℕ → Bool → Path → List ℕ
path_line schema item covering TableScan = scan_line item
path_line schema item covering (RowidEq part) = rowid_line item (codes "rowid=?" ∷ [])
path_line schema item covering (RowidRange low high) =
    rowid_line item (bound_tests (codes "rowid") (is_some low) (is_some high))
path_line schema item covering (IndexScan index) = index_scan_line schema item covering index
path_line schema item covering (IndexSeek index eqs low high) =
    seek_line schema item covering index (length eqs) (is_some low) (is_some high)
path_line schema item covering (Union paths) = codes "MULTI-INDEX OR"

-- the branches of a union, each after two spaces; none is covering
abbrev pub branch_lines : Schema → List ℕ → Paths → List (List ℕ)
branch_lines schema item Nowhere = []
branch_lines schema item (Then path paths) =
    (codes "  " ++ path_line schema item false path) ∷ branch_lines schema item paths

abbrev pub lines_below : Schema → List ℕ → Path → List (List ℕ)
lines_below schema item (Union paths) = branch_lines schema item paths
lines_below schema item path = []

abbrev pub left_mark : Bool → List ℕ
left_mark true = codes " LEFT-JOIN"
left_mark false = []

abbrev pub walk_lines : Schema → List ℕ → Bool → Bool → Path → List (List ℕ)
walk_lines schema item left covering path =
    (path_line schema item covering path ++ left_mark left) ∷ lines_below schema item path

abbrev pub loop_lines : Schema → List (Option (List ℕ)) → Bound → Bool → Loop → List (List ℕ)
loop_lines schema aliases bound covering l =
    walk_lines schema (item_text schema aliases bound l.item) (is_left bound l.item) covering l.path

-- those of each loop; `covering` says for each whether its index has all columns that are needed
abbrev pub loops_lines : Schema → List (Option (List ℕ)) → Bound → List Bool → List Loop
    → List (List ℕ)
loops_lines schema aliases bound covering [] = []
loops_lines schema aliases bound [] (l ∷ ls) = []
loops_lines schema aliases bound (c ∷ cs) (l ∷ ls) =
    loop_lines schema aliases bound c l ++ loops_lines schema aliases bound cs ls

abbrev pub sort_lines : Bool → List (List ℕ)
sort_lines true = codes "USE TEMP B-TREE FOR ORDER BY" ∷ []
sort_lines false = []

abbrev pub lines_of : Schema → List (Option (List ℕ)) → List Bool → Plan → List (List ℕ)
lines_of schema aliases covering plan =
    loops_lines schema aliases plan.bound covering plan.loops ++ sort_lines plan.sort

-- lines, each with its line feed
abbrev pub as_text : List (List ℕ) → List ℕ
as_text lines = flat_map (λ line. line ++ 10 ∷ []) lines

-- one line a loop, more for a union, and one for a sort
abbrev pub plan_lines : Schema → List (Option (List ℕ)) → List Bool → Plan → List ℕ
plan_lines schema aliases covering plan = as_text (lines_of schema aliases covering plan)

-- what a plan's text asks of it: its items and their tables are there, and each path fits the table
-- of its item
pub record HasText (schema : Schema) (plan : Plan) : Type 0 where
  pub tables : AllByRecursion (λ i. i.table < length schema.tables) plan.bound.items
  pub items : AllByRecursion (λ l. l.item < length plan.bound.items) plan.loops
  pub paths : FitsTables (plain_schema schema) plan
