use Rattle.std.proofs.Common.{◌≡◌, drop}
use Rattle.plan_choice.specs.Candidates.{add_lists}
use Rattle.candidate_index.specs.Searches.{known, Finds}
use Rattle.candidate_index.proofs.ScanLists.{bound_lists}
use Rattle.candidate_index.proofs.search.Search.try_bounds.Given as goal

abbrev pub invariant-loop-bound : goal.invariant-loop-bound
invariant-loop-bound l = record {
  finds : Finds l.schema l.self;
  same : add_lists l.scan.table (known l.schema l.self)
      (bound_lists l.start (drop l.bound-index l.bounds))
      ≡ add_lists l.scan.table (known l.schema l.initial.self) (bound_lists l.start l.bounds);
}
