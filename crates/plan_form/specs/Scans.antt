-- The plan that scans the one table of a statement.
use Rattle.std.specs.Prelude.{◌≡◌, ℕ, false, List, [], ◌∷◌, length}
use Rattle.sql_meaning.specs.Schemas.{Schema}
use Rattle.sql_meaning.specs.Statements.{Bound}
use Rattle.sql_meaning.specs.Paths.{TableScan}
use Rattle.sql_meaning.specs.Plans.{Plan}
use Rattle.sql_meaning.specs.Asked.{Means}
use Rattle.sql_bound.specs.Fits.{Fits}

-- one loop over all rows, which tests each conjunct
abbrev pub table_scan : Bound → Plan
table_scan bound = record {
  bound = bound;
  loops = record { item = 0; path = TableScan; reverse = false; consumed = [] } ∷ [];
  sort = false;
}

-- a statement over one table that asks for no order is what the scan of that table gives
abbrev pub TableScansMean : Type 0
TableScansMean =
    (schema : Schema) (bound : Bound) (needs : List (List ℕ)) → Fits schema bound needs
    → length bound.items ≡ 1 → bound.keys ≡ [] → Means schema (table_scan bound)
