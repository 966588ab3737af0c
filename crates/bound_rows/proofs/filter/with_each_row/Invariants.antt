use Rattle.std.proofs.Common.{◌≡◌, ◌++◌, drop, map, Some, []}
use Rattle.std.specs.Prelude.{slice_index_or}
use Rattle.std.specs.List.{flat_map}
use Rattle.sql_meaning.specs.Statements.{is_left}
use Rattle.sql_value.specs.View.{plain_value}
use Rattle.schema_model.specs.PlainSchemas.{plain_database}
use Rattle.sql_bound.specs.Statements.{bound_of}
use Rattle.bound_rows.specs.Levels.{with_rows, level_rows}
use Rattle.bound_rows.specs.Places.{AllFit, assignments, held}
use Rattle.bound_rows.specs.Readable.{lent_exprs}
use Rattle.bound_rows.specs.Tested.{level_table}
use Rattle.bound_rows.proofs.filter.with_each_row.Given as goal

abbrev pub invariant-loop-outer : goal.invariant-loop-outer
invariant-loop-outer l = record {
  left : AllFit (plain_database l.source.tables.now) (bound_of l.level.bound.now).items
      (held (drop l.outer-index l.lists));
  fit : AllFit (plain_database l.source.tables.now) (bound_of l.level.bound.now).items
      (held l.found.items);
  found : assignments (plain_database l.source.tables.now) (held l.found.items)
      ++ flat_map
      (λ env. with_rows (map plain_value l.source.params.now) (lent_exprs l.level.common.items)
      l.level.item
      (level_rows (is_left (bound_of l.level.bound.now) l.level.item)
      (map plain_value l.source.params.now) (lent_exprs l.level.owned.items) l.level.item
      (map Some (slice_index_or (plain_database l.source.tables.now) (level_table l.level) []))
      env) env)
      (assignments (plain_database l.source.tables.now) (held (drop l.outer-index l.lists)))
      ≡ flat_map
      (λ env. with_rows (map plain_value l.source.params.now) (lent_exprs l.level.common.items)
      l.level.item
      (level_rows (is_left (bound_of l.level.bound.now) l.level.item)
      (map plain_value l.source.params.now) (lent_exprs l.level.owned.items) l.level.item
      (map Some (slice_index_or (plain_database l.source.tables.now) (level_table l.level) []))
      env) env) (assignments (plain_database l.source.tables.now) (held l.lists));
}
