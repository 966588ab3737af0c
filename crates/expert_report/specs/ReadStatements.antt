-- Statements as the code reads them, seen as plain data.
use Rattle.std.specs.Prelude.{◌≡◌}
use Rattle.sql_meaning.specs.TermLists as meant
use Rattle.schema_model.specs.PlainSchemas.{plain_schema}
use Rattle.schema_model.specs.Schemas.{Schema}
use Rattle.sql_bound.specs.Fits.{Fits}
use Rattle.sql_bound.specs.Statements.{bound_of, needs_of}
use Rattle.where_terms.specs.Views.{terms_of}
use Rattle.where_terms.specs.Marked.{AllAreMarked}
use Rattle.plan_form.specs.Texts.{aliases_of}
use Rattle.expert_advice.specs.Planned.{statement_of}
use Rattle.expert_report.specs.Readings as plain
use Rattle.expert_report.specs.declared.script.BoundStatement.{BoundStatement}
use Rattle.expert_report.specs.declared.script.Reading.{Reading}
use Rattle.expert_report.specs.declared.script.Reading.TheVariants.{Bound, Refused}

abbrev pub reading : Reading → plain.Reading
reading (Bound b) = plain.BoundTo (statement_of b.bound.now) (aliases_of b.bound.now.items.now)
reading (Refused why) = plain.RefusedFor why

-- the statement fits the schema, and the terms are its own
pub record IsBoundTo (schema : Schema) (b : BoundStatement) : Type 0 where
  pub fits : Fits (plain_schema schema) (bound_of b.bound.now) (needs_of b.bound.now)
  pub terms : terms_of b.terms ≡ meant.terms_of (plain_schema schema) (bound_of b.bound.now)
  pub marked : AllAreMarked b.terms

-- a statement that is bound has its terms
abbrev pub IsReady : Schema → Reading → Type 0
IsReady schema (Bound b) = IsBoundTo schema b
IsReady schema (Refused why) = Unit {0}
