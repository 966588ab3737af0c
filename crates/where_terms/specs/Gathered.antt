-- The terms of a column, from what the code gathers them from.
use Rattle.std.specs.Prelude.{List, ◌++◌, map}
use Rattle.sql_meaning.specs.Expressions as plain
use Rattle.sql_meaning.specs.Terms as plain_terms
use Rattle.sql_meaning.specs.Choices as plain_choices
use Rattle.sql_meaning.specs.TermLists.{of_kind, is_equal, is_within, derived_along, gathered}
use Rattle.schema_model.specs.PlainSchemas.{plain_schema}
use Rattle.sql_bound.specs.Expressions.{expr_of}
use Rattle.sql_bound.specs.Statements.{item_of}
use Rattle.where_terms.specs.declared.gathering.Sources.{Sources}
use Rattle.where_terms.specs.Views.{term_of, link_of}
use Rattle.where_terms.specs.Linked.{linked_in}

abbrev pub derived_from : Sources → plain.ColumnRef → List plain_terms.Term
derived_from s c =
    derived_along (plain_schema s.schema.now) (map item_of s.items.now)
    (map (λ e. expr_of e.now) s.constants.now) c.item c
    (linked_in (map link_of s.links.now) c)

abbrev pub equals_from : Sources → plain.ColumnRef → List plain_terms.Term
equals_from s c =
    of_kind is_equal c.site (map term_of s.own.now)
    ++ (derived_from s c ++ of_kind is_within c.site (map term_of s.own.now))

abbrev pub gathered_from : Sources → plain.ColumnRef → plain_choices.ColumnTerms
gathered_from s c =
    gathered c.site (map term_of s.own.now) (derived_from s c) (map term_of s.likes.now)
