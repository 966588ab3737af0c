use Rattle.std.proofs.Common.{◌≡◌, ◌++◌, drop, map}
use Rattle.std.specs.List.{flat_map}
use Rattle.sql_meaning.specs.TermLists.{column_term}
use Rattle.schema_model.specs.PlainSchemas.{plain_schema}
use Rattle.sql_bound.specs.Statements.{item_of}
use Rattle.where_terms.specs.Views.{term_of}
use Rattle.sql_bound.specs.Columns.{column_ref_of}
use Rattle.where_terms.proofs.derived.push_columns.Given as goal

abbrev pub invariant-loop-d : goal.invariant-loop-d
invariant-loop-d l =
    map term_of l.terms.items
    ++ flat_map
    (column_term (plain_schema l.schema) (map item_of l.items) l.item (column_ref_of l.c))
    (map column_ref_of (drop l.d-index l.linked))
    ≡ map term_of l.fn.terms.items
    ++ flat_map
    (column_term (plain_schema l.schema) (map item_of l.items) l.item (column_ref_of l.c))
    (map column_ref_of l.linked)
