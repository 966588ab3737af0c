use Rattle.std.proofs.Common.{◌≡◌, ◌-◌, map, length, Some, None, []}
use Rattle.std.specs.Prelude.{replicate}
use Rattle.std.specs.List.{flat_map}
use Rattle.list_laws.specs.Nest.{nested}
use Rattle.sql_meaning.specs.Statements.{OwnersAreLeft, numbers_from}
use Rattle.sql_value.specs.View.{plain_value}
use Rattle.schema_model.specs.PlainSchemas.{plain_database}
use Rattle.sql_bound.specs.Naming.{IsPlaced}
use Rattle.sql_bound.specs.Statements.{bound_of}
use Rattle.bound_rows.specs.Levels.{item_steps, items_before}
use Rattle.bound_rows.specs.Places.{AllFit, assignments, held}
use Rattle.bound_rows.proofs.filter.all_rows.Given as goal

abbrev pub invariant-loop-number : goal.invariant-loop-number
invariant-loop-number l = record {
  placed : IsPlaced l.placed (items_before l.number);
  fit : AllFit (plain_database l.source.tables.now) (bound_of l.bound).items (held l.found.items);
  found : OwnersAreLeft (bound_of l.bound)
      → flat_map
      (nested
      (item_steps (plain_database l.source.tables.now) (bound_of l.bound)
      (map plain_value l.source.params.now) (items_before l.number)
      (numbers_from l.number (length (bound_of l.bound).items - l.number))))
      (assignments (plain_database l.source.tables.now) (held l.found.items))
      ≡ nested
      (item_steps (plain_database l.source.tables.now) (bound_of l.bound)
      (map plain_value l.source.params.now) []
      (numbers_from 0 (length (bound_of l.bound).items)))
      (replicate (length (bound_of l.bound).items) (Some None));
}
