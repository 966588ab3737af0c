-- A schema with candidates behind its own indexes.
use Rattle.std.specs.Prelude.{◌≡◌, ◌≤◌, ℕ, false, List, map, length, take, drop, ◌++◌}
use Rattle.std.specs.List.{AllByRecursion}
use Rattle.sql_meaning.specs.Statements.{Bound}
use Rattle.sql_meaning.specs.TermLists.{terms_of}
use Rattle.plan_choice.specs.Advice as meant
use Rattle.plan_choice.specs.Candidates.{candidate_limit}
use Rattle.plan_choice.specs.CandidateNames.{candidate_names}
use Rattle.schema_model.specs.PlainSchemas.{plain_index, plain_schema}
use Rattle.schema_model.specs.Schemas.{Schema}
use Rattle.schema_model.specs.UsableIndexes.{IsEmptyUnlessUsable}
use Rattle.schema_model.specs.declared.indexes.Index.{Index}
use Rattle.sql_bound.specs.Fits.{Fits}
use Rattle.candidate_index.specs.Known.{candidates_of, IsCandidateOf}
use Rattle.candidate_index.specs.Naming.{naming}

-- candidates of a schema, under the names that they are given
pub record AreCandidatesOf (schema : Schema) (candidates : List Index) : Type 0 where
  pub names : map (λ index. index.name) candidates
      ≡ candidate_names (naming schema) (map plain_index candidates)
  pub sound : AllByRecursion (IsCandidateOf schema.tables) candidates
  pub few : length candidates ≤ candidate_limit

abbrev pub with_candidates : Schema → List Index → Schema
with_candidates s candidates = record {
  tables = s.tables;
  unread = s.unread;
  indexes = s.indexes ++ candidates;
}

-- the tables of the schema, and behind its indexes some that aren't unique
pub record IsFull (schema full : Schema) : Type 0 where
  pub tables : full.tables ≡ schema.tables
  pub own : take (length schema.indexes) full.indexes ≡ schema.indexes
  pub plain : AllByRecursion (λ index. index.unique ≡ false)
      (drop (length schema.indexes) full.indexes)

-- where indexes that aren't usable have no columns, as in the schema of a dump
abbrev pub FullSchemasAreMeant : Type 0
FullSchemasAreMeant =
    (schema full : Schema) (candidates : List Index) (r : meant.Request)
    → full ≡ with_candidates schema candidates → r.schema ≡ plain_schema schema
    → AllByRecursion IsEmptyUnlessUsable schema.indexes
    → map plain_index candidates ≡ candidates_of schema (meant.all_scans r)
    → plain_schema full ≡ meant.full_schema r

abbrev pub StatementsStillFit : Type 0
StatementsStillFit =
    (schema full : Schema) (bound : Bound) (needs : List (List ℕ)) → IsFull schema full
    → Fits (plain_schema schema) bound needs → Fits (plain_schema full) bound needs

abbrev pub TermsStay : Type 0
TermsStay =
    (schema full : Schema) (bound : Bound) → IsFull schema full
    → terms_of (plain_schema full) bound ≡ terms_of (plain_schema schema) bound
