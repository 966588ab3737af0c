use Rattle.std.proofs.Common.{◌≡◌, ◌<◌, ◌++◌, Some, drop, map, length}
use Rattle.std.specs.List.{AllByRecursion, slice_get}
use Rattle.schema_model.specs.PlainSchemas.{plain_rows}
use Rattle.index_lists.specs.Lent.{lent_rows}
use Rattle.plan_form.specs.LoopRows.{IsRowIn}
use Rattle.plan_form.proofs.numbers.row_numbers.Given as goal

abbrev pub invariant-loop-row : goal.invariant-loop-row
invariant-loop-row l = record {
  within : AllByRecursion (λ number. number < length l.table) l.numbers.items;
  members : AllByRecursion (IsRowIn (plain_rows l.table)) (lent_rows (drop l.row-index l.rows));
  rows : map (slice_get (plain_rows l.table)) l.numbers.items
      ++ map Some (lent_rows (drop l.row-index l.rows)) ≡ map Some (lent_rows l.rows);
}
