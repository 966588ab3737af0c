-- What a statement is planned over: the schema and its figures, and the statement's own terms.
use Rattle.std.specs.Prelude.{ℕ, List, [], slice_index_or, slice_get, length}
use Rattle.std.specs.List.{filter}
use Rattle.sql_meaning.specs.Schemas.{Schema}
use Rattle.sql_meaning.specs.Statements.{Bound, numbers_from, table_of}
use Rattle.sql_meaning.specs.Fitting.{is_usable_on}
use Rattle.sql_meaning.specs.TermLists.{ItemTerms, terms_of}
use Rattle.plan_choice.specs.Figures.{Figures}

-- a bound statement, with the numbers of the columns that it needs of each item
pub record Statement : Type 0 where
  pub bound : Bound
  pub needs : List (List ℕ)

-- `terms` are those of the statement: they are looked for once
pub record Setting : Type 0 where
  pub schema : Schema
  pub figures : Figures
  pub bound : Bound
  pub needs : List (List ℕ)
  pub terms : List ItemTerms

abbrev pub setting : Schema → Figures → Statement → Setting
setting schema figures statement = record {
  schema = schema;
  figures = figures;
  bound = statement.bound;
  needs = statement.needs;
  terms = terms_of schema statement.bound;
}

abbrev pub no_terms : ItemTerms
no_terms = record { columns = []; ors = [] }

abbrev pub terms_for : Setting → ℕ → ItemTerms
terms_for s item = slice_index_or s.terms item no_terms

abbrev pub table_for : Setting → ℕ → ℕ
table_for s item = table_of (slice_get s.bound.items item)

-- the usable indexes of a table, in the schema's order
abbrev pub indexes_on : Schema → ℕ → List ℕ
indexes_on schema table =
    filter (λ i. is_usable_on table (slice_get schema.indexes i))
    (numbers_from 0 (length schema.indexes))
