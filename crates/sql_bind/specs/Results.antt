-- The result list: `*` and `t.*` stand for columns (lang_select, "Generation of the set of result
-- rows").
use Rattle.std.specs.Prelude.{ℕ, Option, Some, None, codes, List, [], ◌∷◌, ◌++◌, map, length}
use Rattle.std.specs.Prelude.{flat_map}
use Rattle.std.specs.List.{range_with_len}
use Rattle.sql_meaning.specs.Expressions.{BExpr}
use Rattle.sql_tree.specs.Statements.{ItemTree, Star, TableStar, Value}
use Rattle.schema_model.specs.Schemas.{columns_of}
use Rattle.schema_model.specs.declared.tables.Table.{Table}
use Rattle.sql_names.specs.declared.faults.BindFault.{BindFault}
use Rattle.sql_names.specs.declared.faults.BindFault.TheVariants as fault
use Rattle.sql_names.specs.Scopes.{Scope, table_at}
use Rattle.sql_names.specs.Names.{column_expr, item_named}
use Rattle.sql_names.specs.Binding.{bound, expr_checks}

-- a result, and the name that ORDER BY may call it by
pub record ResultColumn : Type 0 where
  pub expr : BExpr
  pub alias : Option (List ℕ)

abbrev pub unnamed : BExpr → ResultColumn
unnamed e = record { expr = e; alias = None }

abbrev pub alias_of : Option Table → Option ℕ
alias_of None = None
alias_of (Some table) = table.alias

-- the column of an item's table that is an alias of the rowid
abbrev pub alias_at : Scope → ℕ → Option ℕ
alias_at scope item = alias_of (table_at scope item)

-- how many columns an item's table has
abbrev pub width_at : Scope → ℕ → ℕ
width_at scope item = length (columns_of (table_at scope item))

abbrev pub column_at : Scope → ℕ → ℕ → ResultColumn
column_at scope item column = unnamed (column_expr (alias_at scope item) item column)

-- the columns of an item, in the table's order
abbrev pub item_columns : Scope → ℕ → List ResultColumn
item_columns scope item =
    map (column_at scope item) (range_with_len 0 (width_at scope item))

abbrev pub columns_under : Scope → Option ℕ → List ResultColumn
columns_under scope None = []
columns_under scope (Some item) = item_columns scope item

abbrev pub every_column : Scope → List ResultColumn
every_column scope = flat_map (item_columns scope) (range_with_len 0 (length scope.items))

-- what an entry of the list stands for
abbrev pub results_of : Scope → ItemTree → List ResultColumn
results_of scope Star = every_column scope
results_of scope (TableStar table) = columns_under scope (item_named scope table)
results_of scope (Value tree alias) = record { expr = bound scope tree; alias = alias } ∷ []

-- `t.*` where no item is called t
abbrev pub star_check : List ℕ → Option ℕ → Option BindFault
star_check table (Some item) = None
star_check table None = Some (fault.NoSuchColumn (table ++ codes ".*"))

abbrev pub entry_checks : Scope → ItemTree → List (Option BindFault)
entry_checks scope Star = []
entry_checks scope (TableStar table) = star_check table (item_named scope table) ∷ []
entry_checks scope (Value tree alias) = expr_checks scope None tree

abbrev pub result_columns : Scope → List ItemTree → List ResultColumn
result_columns scope entries = flat_map (results_of scope) entries
