use Rattle.std.proofs.Common.{◌≡◌, ◌++◌, drop, map}
use Rattle.sql_value.specs.View.{plain_value}
use Rattle.schema_model.specs.PlainSchemas.{plain_database}
use Rattle.sql_bound.specs.Statements.{bound_of}
use Rattle.bound_rows.specs.Keys.{keyed_by}
use Rattle.bound_rows.specs.Keyed.{pair_of}
use Rattle.bound_rows.specs.Places.{AllFit, lent}
use Rattle.bound_rows.proofs.sorting.with_keys.Given as goal

abbrev pub invariant-loop-places : goal.invariant-loop-places
invariant-loop-places l = record {
  fit : AllFit (plain_database l.source.tables.now) (bound_of l.bound).items
      (lent (drop l.places-index l.rows));
  seen : map pair_of l.keyed.items
      ++ map
      (keyed_by (plain_database l.source.tables.now) (bound_of l.bound).keys
      (map plain_value l.source.params.now)) (lent (drop l.places-index l.rows))
      ≡ map
      (keyed_by (plain_database l.source.tables.now) (bound_of l.bound).keys
      (map plain_value l.source.params.now)) (lent l.rows);
}
