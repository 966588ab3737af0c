-- What a statement is planned over, seen as plain data.
use Rattle.std.specs.Prelude.{◌≡◌}
use Rattle.sql_meaning.specs.TermLists as meant_terms
use Rattle.schema_model.specs.PlainSchemas.{plain_schema}
use Rattle.sql_bound.specs.Statements.{bound_of, needs_of}
use Rattle.sql_bound.specs.Fits.{Fits}
use Rattle.where_terms.specs.Views.{terms_of}
use Rattle.where_terms.specs.Marked.{AllAreMarked}
use Rattle.plan_choice.specs.Settings as meant
use Rattle.access_paths.specs.Indexes.{indexes_of}
use Rattle.access_paths.specs.declared.setting.Setting.{Setting}

-- contracts speak of a setting through this view alone
abbrev pub setting_of : Setting → meant.Setting
setting_of s = record {
  schema = plain_schema s.schema.now;
  figures = s.figures.now;
  bound = bound_of s.bound.now;
  needs = needs_of s.bound.now;
  terms = terms_of s.terms.now;
}

-- its parts are of one schema and one statement
pub record IsReady (s : Setting) : Type 0 where
  pub fits : Fits (plain_schema s.schema.now) (bound_of s.bound.now) (needs_of s.bound.now)
  pub indexes : s.indexes.now ≡ indexes_of (plain_schema s.schema.now)
  pub terms : terms_of s.terms.now
      ≡ meant_terms.terms_of (plain_schema s.schema.now) (bound_of s.bound.now)
  pub marked : AllAreMarked s.terms.now
