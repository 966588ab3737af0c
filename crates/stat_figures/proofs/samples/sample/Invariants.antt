use Rattle.std.proofs.Common.{◌≡◌, ◌*◌, ◌%◌, drop, ◌++◌}
use Rattle.index_lists.specs.Lent.{lent_rows}
use Rattle.plan_choice.specs.Figures as meant
use Rattle.schema_model.specs.PlainSchemas.{plain_rows}
use Rattle.stat_figures.proofs.samples.sample.Given as goal

abbrev pub invariant-loop-row : goal.invariant-loop-row
invariant-loop-row l = record {
  owed : l.owed ≡ l.row-index * l.percent % 100;
  taken : lent_rows l.list.items
      ++ meant.sampled_from l.percent l.row-index (plain_rows (drop l.row-index l.rows))
      ≡ meant.sampled l.percent (plain_rows l.rows);
}
