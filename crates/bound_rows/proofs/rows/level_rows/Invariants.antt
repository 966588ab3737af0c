use Rattle.std.proofs.Common.{◌≡◌, ◌++◌, drop, map, Some}
use Rattle.std.specs.Prelude.{slice_set}
use Rattle.std.specs.List.{AllByRecursion, filter}
use Rattle.list_laws.specs.Nest.{place}
use Rattle.sql_value.specs.View.{plain_value}
use Rattle.schema_model.specs.PlainSchemas.{plain_database}
use Rattle.sql_bound.specs.Statements.{bound_of}
use Rattle.sql_eval.specs.Environments.{placed}
use Rattle.sql_eval.specs.declared.environment.Place.{Place}
use Rattle.bound_rows.specs.Levels.{all_true}
use Rattle.bound_rows.specs.Places.{FitPlaces, IsRowOf, rows_at}
use Rattle.bound_rows.specs.Readable.{lent_exprs}
use Rattle.bound_rows.specs.Tested.{level_table}
use Rattle.bound_rows.proofs.rows.level_rows.Given as goal

abbrev pub invariant-loop-number : goal.invariant-loop-number
invariant-loop-number l = record {
  places : FitPlaces (plain_database l.source.tables.now) (bound_of l.level.bound.now).items
      l.places.items;
  others : (p : Place) → slice_set l.places.items l.level.item p
      ≡ slice_set l.outer l.level.item p;
  fit : AllByRecursion (IsRowOf (plain_database l.source.tables.now) (level_table l.level))
      l.kept.items;
  kept : rows_at (plain_database l.source.tables.now) (level_table l.level) l.kept.items
      ++ filter
      (λ x. all_true (map plain_value l.source.params.now) (lent_exprs l.level.owned.items)
      (place (placed (plain_database l.source.tables.now) l.outer) l.level.item x))
      (rows_at (plain_database l.source.tables.now) (level_table l.level)
      (map Some (drop l.number-index l.rows)))
      ≡ filter
      (λ x. all_true (map plain_value l.source.params.now) (lent_exprs l.level.owned.items)
      (place (placed (plain_database l.source.tables.now) l.outer) l.level.item x))
      (rows_at (plain_database l.source.tables.now) (level_table l.level) (map Some l.rows));
}
