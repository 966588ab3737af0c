use Rattle.std.proofs.Common.{◌≡◌, ◌++◌, drop, map, Some}
use Rattle.std.specs.List.{flat_map}
use Rattle.sql_meaning.specs.Schemas as schemas
use Rattle.sql_meaning.specs.Statements.{is_left}
use Rattle.sql_value.specs.View.{plain_value}
use Rattle.schema_model.specs.PlainSchemas.{plain_database, plain_rows}
use Rattle.sql_bound.specs.Statements.{bound_of}
use Rattle.bound_rows.specs.Levels.{with_rows, level_rows}
use Rattle.bound_rows.specs.Places.{AllFit, assignments, held}
use Rattle.bound_rows.specs.Readable.{lent_exprs}
use Rattle.plan_form.specs.LoopRows.{walked_rows}
use Rattle.plan_form.specs.Plans.{loop_of}
use Rattle.plan_form.specs.Seeks.{walked_paths}
use Rattle.plan_form.specs.SortedLists.{AreListsOf}
use Rattle.plan_form.proofs.walks.with_loop_rows.Given as goal

abbrev pub invariant-loop-number : goal.invariant-loop-number
invariant-loop-number l = record {
  fit : AllFit (plain_database l.source.tables.now) (bound_of l.level.bound.now).items
      (held l.found.items);
  found : (schema : schemas.Schema)
      → AreListsOf schema (plain_rows l.table) (walked_paths (loop_of l.each).path) l.lists
      → assignments (plain_database l.source.tables.now) (held l.found.items)
      ++ flat_map
      (λ env. with_rows (map plain_value l.source.params.now) (lent_exprs l.level.common.items)
      l.level.item
      (level_rows (is_left (bound_of l.level.bound.now) l.level.item)
      (map plain_value l.source.params.now) (lent_exprs l.level.owned.items) l.level.item
      (map Some
      (walked_rows schema (map plain_value l.source.params.now) (loop_of l.each)
      (plain_rows l.table) env)) env) env)
      (assignments (plain_database l.source.tables.now) (drop l.number (held l.outer)))
      ≡ flat_map
      (λ env. with_rows (map plain_value l.source.params.now) (lent_exprs l.level.common.items)
      l.level.item
      (level_rows (is_left (bound_of l.level.bound.now) l.level.item)
      (map plain_value l.source.params.now) (lent_exprs l.level.owned.items) l.level.item
      (map Some
      (walked_rows schema (map plain_value l.source.params.now) (loop_of l.each)
      (plain_rows l.table) env)) env) env)
      (assignments (plain_database l.source.tables.now) (held l.outer));
}
