-- Scans as plain data, and scans whose tables and columns are there.
use Rattle.std.specs.Prelude.{List, map, length, ◌<◌}
use Rattle.std.specs.List.{AllByRecursion, flat_map}
use Rattle.plan_choice.specs.Scans as plain
use Rattle.sql_meaning.specs.Schemas.{IndexColumn}
use Rattle.schema_model.specs.PlainSchemas.{plain_index_column}
use Rattle.schema_model.specs.CreateTexts.{AreInTable}
use Rattle.schema_model.specs.Schemas.{columns_at}
use Rattle.schema_model.specs.declared.tables.Table.{Table}
use Rattle.candidate_index.specs.declared.asked.JoinColumns.{JoinColumns}
use Rattle.candidate_index.specs.declared.asked.Scan.{Scan}

abbrev pub join_of : JoinColumns → List IndexColumn
join_of j = map plain_index_column j.columns

abbrev pub scan_of : Scan → plain.Scan
scan_of s = record {
  table = s.table;
  equal = map plain_index_column s.equal;
  joined = map plain_index_column s.joined;
  by_item = map join_of s.by_item;
  bounds = map plain_index_column s.bounds;
  order = map plain_index_column s.order;
}

-- the scans of each statement, in one list
abbrev pub scans_of : List (List Scan) → List plain.Scan
scans_of statements = flat_map (map scan_of) statements

-- a scan of a table that is there, on its columns
pub record IsScanOf (tables : List Table) (s : Scan) : Type 0 where
  pub table : s.table < length tables
  pub equal : AreInTable (columns_at tables s.table) s.equal
  pub joined : AreInTable (columns_at tables s.table) s.joined
  pub by_item : AllByRecursion (λ j. AreInTable (columns_at tables s.table) j.columns) s.by_item
  pub bounds : AreInTable (columns_at tables s.table) s.bounds
  pub order : AreInTable (columns_at tables s.table) s.order

abbrev pub AreScansOf : List Table → List Scan → Type 0
AreScansOf tables scans = AllByRecursion (IsScanOf tables) scans

-- the scans of each statement
abbrev pub AllScansOf : List Table → List (List Scan) → Type 0
AllScansOf tables statements = AllByRecursion (AreScansOf tables) statements
