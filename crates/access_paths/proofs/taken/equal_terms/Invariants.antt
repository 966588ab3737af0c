use Rattle.std.proofs.Common.{◌≡◌, drop, map, length}
use Rattle.sql_meaning.specs.Choices.{seek_terms}
use Rattle.schema_model.specs.PlainSchemas.{plain_index_column}
use Rattle.access_paths.specs.Placed.{items_in}
use Rattle.access_paths.specs.Fitting.{behind_equals}
use Rattle.access_paths.specs.Supplies.{supplied, lent_terms}
use Rattle.access_paths.proofs.taken.equal_terms.Given as goal

-- what is taken so far, and along the columns that are left
abbrev pub invariant-loop-column : goal.invariant-loop-column
invariant-loop-column l = record {
  one_each : length l.equals.items ≡ l.column-index;
  taken : seek_terms (items_in l.supply.placed) l.supply.alias (supplied l.supply)
      (map plain_index_column l.columns)
      ≡ behind_equals (lent_terms l.equals.items)
      (seek_terms (items_in l.supply.placed) l.supply.alias (supplied l.supply)
      (map plain_index_column (drop l.column-index l.columns)));
}
