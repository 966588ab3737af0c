use Rattle.std.proofs.Common.{take}
use Rattle.schema_model.specs.PlainSchemas.{plain_rows, plain_schema}
use Rattle.plan_form.specs.Seeks.{lent_paths}
use Rattle.plan_form.specs.SortedLists.{AreListsOf, AreSearchable}
use Rattle.plan_form.proofs.lists.lists_of.Given as goal

abbrev pub invariant-loop-number : goal.invariant-loop-number
invariant-loop-number l = record {
  lists : AreListsOf (plain_schema l.schema) (plain_rows l.rows)
      (take l.number (lent_paths l.paths)) l.lists.items;
  searchable : AreSearchable (take l.number (lent_paths l.paths)) l.lists.items;
}
