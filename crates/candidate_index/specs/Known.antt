-- What candidates stand behind: the usable indexes of a schema; and the candidates of scans.
use Rattle.std.specs.Prelude.{◌≡◌, ◌<◌, List, map, length, drop, true, false}
use Rattle.std.specs.List.{filter, AllByRecursion}
use Rattle.sql_meaning.specs.Schemas as plain
use Rattle.plan_choice.specs.Scans as asked
use Rattle.plan_choice.specs.Candidates.{with_candidates}
use Rattle.schema_model.specs.PlainSchemas.{plain_index, plain_schema}
use Rattle.schema_model.specs.CreateTexts.{AreInTable}
use Rattle.schema_model.specs.Schemas.{Schema, columns_at}
use Rattle.schema_model.specs.UsableIndexes.{IsEmptyUnlessUsable}
use Rattle.schema_model.specs.declared.tables.Table.{Table}
use Rattle.schema_model.specs.declared.indexes.Index.{Index}

-- indexes that aren't usable serve nothing
abbrev pub usable : List Index → List plain.Index
usable indexes = map plain_index (filter (λ index. index.usable) indexes)

abbrev pub usable_indexes : Schema → List plain.Index
usable_indexes s = usable s.indexes

-- those of a list that come behind the usable indexes
abbrev pub behind_usable : Schema → List plain.Index → List plain.Index
behind_usable s indexes = drop (length (usable_indexes s)) indexes

abbrev pub candidates_of : Schema → List asked.Scan → List plain.Index
candidates_of s scans = behind_usable s (with_candidates (usable_indexes s) scans)

-- a usable index that isn't unique, of a table and columns that are there
pub record IsCandidateOf (tables : List Table) (index : Index) : Type 0 where
  pub unique : index.unique ≡ false
  pub usable : index.usable ≡ true
  pub table : index.table < length tables
  pub columns : AreInTable (columns_at tables index.table) index.columns

-- where indexes that aren't usable have no columns, candidates stand behind all indexes alike
abbrev pub UnusableServeNothing : Type 0
UnusableServeNothing =
    (s : Schema) (scans : List asked.Scan) → AllByRecursion IsEmptyUnlessUsable s.indexes
    → candidates_of s scans
    ≡ drop (length (plain_schema s).indexes) (with_candidates (plain_schema s).indexes scans)
