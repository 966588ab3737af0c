-- What the terms that a seek takes are seen as.
use Rattle.sql_meaning.specs.Choices as meant
use Rattle.access_paths.specs.Fitting.{behind_equals}
use Rattle.access_paths.specs.Supplies.{lent_term, lent_terms}
use Rattle.access_paths.specs.declared.taken.Taken.{Taken}

abbrev pub taken_of : Taken → meant.Taken
taken_of t =
    behind_equals (lent_terms t.equals.items)
    (meant.take_bounds (lent_term t.bounds.low) (lent_term t.bounds.high))
