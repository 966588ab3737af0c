use Rattle.std.proofs.Common.{◌≡◌, drop}
use Rattle.plan_choice.specs.Candidates.{add_lists}
use Rattle.candidate_index.specs.Searches.{known, Finds}
use Rattle.candidate_index.proofs.ScanLists.{join_lists}
use Rattle.candidate_index.proofs.search.Search.try_joins.Given as goal

abbrev pub invariant-loop-join : goal.invariant-loop-join
invariant-loop-join l = record {
  finds : Finds l.schema l.self;
  same : add_lists l.scan.table (known l.schema l.self)
      (join_lists l.scan (drop l.join-index l.joins))
      ≡ add_lists l.scan.table (known l.schema l.initial.self) (join_lists l.scan l.joins);
}
