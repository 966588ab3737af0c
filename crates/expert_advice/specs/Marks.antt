-- Which index a path walks by itself, and not by its branches.
use Rattle.std.specs.Prelude.{ℕ, Bool, false, ◌==◌}
use Rattle.sql_meaning.specs.Paths.{Path, TableScan, RowidEq, RowidRange, IndexScan, IndexSeek}
use Rattle.sql_meaning.specs.Paths.{Union}

abbrev pub walks_itself : ℕ → Path → Bool
walks_itself index TableScan = false
walks_itself index (RowidEq part) = false
walks_itself index (RowidRange low high) = false
walks_itself index (IndexScan i) = i == index
walks_itself index (IndexSeek i eqs low high) = i == index
walks_itself index (Union paths) = false
