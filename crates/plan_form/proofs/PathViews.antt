-- What each form of a path is seen as, for tactics.
use Rattle.plan_form.proofs.SeenPaths.{path_of-TableScan, path_of-RowidEq, path_of-RowidRange}
use Rattle.plan_form.proofs.SeenPaths.{path_of-IndexScan, path_of-IndexSeek, path_of-Union}

pub ruleset seen_paths = (
  path_of-TableScan,
  path_of-RowidEq,
  path_of-RowidRange,
  path_of-IndexScan,
  path_of-IndexSeek,
  path_of-Union,
)
