use Rattle.std.proofs.Common.{◌+◌, refl, map, drop}
use Rattle.plan_choice.specs.Candidates.{add_lists, lists_of, with_candidates}
use Rattle.candidate_index.specs.Faults.{IsWhy}
use Rattle.candidate_index.specs.Known.{behind_usable}
use Rattle.candidate_index.specs.Scans.{scan_of}
use Rattle.candidate_index.specs.Searches.{known}
use Rattle.candidate_index.proofs.ScanLists.{scans_next, why_in_scans, exits}
use Rattle.candidate_index.proofs.search.Search.try_scans.Goals as goal

pub returns-in_err-try_scan-clause-many : goal.returns-in_err-try_scan-clause-many
returns-in_err-try_scan-clause-many c =
    let schema = c.args.schema.now in
    let scans = c.args.scans.now in
    let i = c.loop-scan.scan-index in
    let scan = c.scan-item.result in
    let before = known schema c.loop-scan.self in
    let here = add_lists scan.table before (lists_of (scan_of scan)) in
    let whole = with_candidates (known schema c.args.self.now) (map scan_of scans) in
    let fault = c.in_err-try_scan.field-0.0 in
    exits (IsWhy (behind_usable schema whole)) c.from_residual.result fault
    c.from_residual.ensures.1
    (why_in_scans schema here whole (map scan_of (drop (i + 1) scans)) fault
    (scans_next scans i scan before here whole c.loop-scan-test.true c.scan-item.is refl
    c.loop-scan.invariant.same)
    c.in_err-try_scan.ensures.many)
