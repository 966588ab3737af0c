use Rattle.std.proofs.Common.{◌≡◌, ◌++◌, drop, map}
use Rattle.std.specs.Prelude.{slice_set}
use Rattle.sql_value.specs.View.{plain_value}
use Rattle.schema_model.specs.PlainSchemas.{plain_database}
use Rattle.sql_bound.specs.Statements.{bound_of}
use Rattle.sql_eval.specs.Environments.{placed}
use Rattle.sql_eval.specs.declared.environment.Place.{Place}
use Rattle.bound_rows.specs.Levels.{with_rows}
use Rattle.bound_rows.specs.Places.{AllFit, FitPlaces, assignments, held, rows_at}
use Rattle.bound_rows.specs.Readable.{lent_exprs}
use Rattle.bound_rows.specs.Tested.{level_table}
use Rattle.bound_rows.proofs.rows.push_with_rows.Given as goal

abbrev pub invariant-loop-row : goal.invariant-loop-row
invariant-loop-row l = record {
  places : FitPlaces (plain_database l.source.tables.now) (bound_of l.level.bound.now).items
      l.places.items;
  others : (p : Place) → slice_set l.places.items l.level.item p
      ≡ slice_set l.outer l.level.item p;
  fit : AllFit (plain_database l.source.tables.now) (bound_of l.level.bound.now).items
      (held l.fn.found.items)
      → AllFit (plain_database l.source.tables.now) (bound_of l.level.bound.now).items
      (held l.found.items);
  found : assignments (plain_database l.source.tables.now) (held l.found.items)
      ++ with_rows (map plain_value l.source.params.now) (lent_exprs l.level.common.items)
      l.level.item
      (rows_at (plain_database l.source.tables.now) (level_table l.level)
      (drop l.row-index l.rows)) (placed (plain_database l.source.tables.now) l.outer)
      ≡ assignments (plain_database l.source.tables.now) (held l.fn.found.items)
      ++ with_rows (map plain_value l.source.params.now) (lent_exprs l.level.common.items)
      l.level.item
      (rows_at (plain_database l.source.tables.now) (level_table l.level) l.rows)
      (placed (plain_database l.source.tables.now) l.outer);
}
