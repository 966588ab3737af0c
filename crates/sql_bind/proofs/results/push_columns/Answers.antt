use Rattle.std.proofs.Common.{◌≡◌, ℕ, Option, Some}
use Rattle.sql_meaning.specs.Expressions.{BExpr}
use Rattle.schema_model.specs.declared.tables.Table.{Table}
use Rattle.sql_names.specs.Scopes.{table_at}
use Rattle.sql_names.specs.Names.{column_expr}
use Rattle.sql_bind.specs.Results.{column_at, alias_of, unnamed}
use Rattle.sql_bind.specs.Views.{results_seen}
use Rattle.sql_bind.proofs.Ranges.{mapped_more}
use Rattle.sql_bind.proofs.results.push_columns.Goals as goal

same_column : (found : Option Table) (table : Table) (item column : ℕ) (e : BExpr)
    → found ≡ Some table → e ≡ column_expr table.alias item column
    → unnamed e ≡ unnamed (column_expr (alias_of found) item column)
same_column found table item column e there is = rw (is, there)

pub loop-column-preserved : goal.loop-column-preserved
loop-column-preserved c =
    mapped_more (column_at c.args.scope.now c.args.item) c.loop-column.column
    (results_seen c.args.results.now.items) (results_seen c.loop-column.results.items) _ _
    c.loop-column.invariant c.in_ok-push.ensures
    (same_column (table_at c.args.scope.now c.args.item) c.table-table.result.now c.args.item
    c.loop-column.column _ c.table-table.ensures.found c.column_expr.ensures)
