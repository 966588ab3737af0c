use Rattle.std.proofs.Common.{◌≡◌, ◌++◌, drop, map}
use Rattle.sql_meaning.specs.Statements.{image}
use Rattle.sql_value.specs.View.{plain_value}
use Rattle.schema_model.specs.PlainSchemas.{plain_database}
use Rattle.sql_bound.specs.Statements.{bound_of}
use Rattle.bound_rows.specs.Answers.{rows_of_answer}
use Rattle.bound_rows.specs.Places.{AllFit, assignments, lent}
use Rattle.bound_rows.proofs.answers.images.Given as goal

abbrev pub invariant-loop-places : goal.invariant-loop-places
invariant-loop-places l = record {
  fit : AllFit (plain_database l.source.tables.now) (bound_of l.bound).items
      (lent (drop l.places-index l.rows));
  seen : rows_of_answer l.answer
      ++ map (image (bound_of l.bound) (map plain_value l.source.params.now))
      (assignments (plain_database l.source.tables.now) (lent (drop l.places-index l.rows)))
      ≡ map (image (bound_of l.bound) (map plain_value l.source.params.now))
      (assignments (plain_database l.source.tables.now) (lent l.rows));
}
