use Rattle.std.proofs.Common.{◌≡◌, ◌++◌, ◌-◌, length, map}
use Rattle.sql_meaning.specs.Statements.{numbers_from}
use Rattle.sql_meaning.specs.TermLists as meant
use Rattle.schema_model.specs.PlainSchemas.{plain_schema}
use Rattle.sql_bound.specs.Statements.{bound_of}
use Rattle.where_terms.specs.Views.{item_terms_of}
use Rattle.where_terms.proofs.statement.items.Given as goal

abbrev pub invariant-loop-item : goal.invariant-loop-item
invariant-loop-item l =
    map item_terms_of l.items.items
    ++ map (meant.terms_of_item (plain_schema l.schema) (bound_of l.bound))
    (numbers_from l.item (length l.bound.items.now - l.item))
    ≡ meant.terms_of (plain_schema l.schema) (bound_of l.bound)
