use Rattle.std.proofs.Common.{◌≡◌, drop, map}
use Rattle.plan_choice.specs.Candidates.{with_candidates}
use Rattle.candidate_index.specs.Scans.{scan_of}
use Rattle.candidate_index.specs.Searches.{known, Finds}
use Rattle.candidate_index.proofs.search.Search.try_scans.Given as goal

abbrev pub invariant-loop-scan : goal.invariant-loop-scan
invariant-loop-scan l = record {
  finds : Finds l.schema l.self;
  same : with_candidates (known l.schema l.self) (map scan_of (drop l.scan-index l.scans))
      ≡ with_candidates (known l.schema l.initial.self) (map scan_of l.scans);
}
