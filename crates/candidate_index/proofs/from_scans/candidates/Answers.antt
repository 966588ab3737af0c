use Rattle.std.proofs.Common.{◌+◌, ap, ◌∙◌, map, drop, List}
use Rattle.plan_choice.specs.Candidates.{with_candidates}
use Rattle.candidate_index.specs.Faults.{IsWhy}
use Rattle.candidate_index.specs.Known.{candidates_of, usable_indexes}
use Rattle.candidate_index.specs.Scans.{scan_of, scans_of}
use Rattle.candidate_index.specs.Searches.{known}
use Rattle.candidate_index.specs.declared.asked.Scan.{Scan}
use Rattle.candidate_index.proofs.ScanLists.{statements_next, why_in_scans, exits}
use Rattle.candidate_index.proofs.from_scans.candidates.Goals as goal

pub returns-in_err-try_scans-clause-many : goal.returns-in_err-try_scans-clause-many
returns-in_err-try_scans-clause-many c =
    let schema = c.args.schema.now in
    let scans = c.args.scans.now in
    let i = c.loop-statement.statement-index in
    let before = known schema c.loop-statement.search in
    let here = with_candidates before (map scan_of c.as_slice.result.now) in
    let whole = with_candidates (usable_indexes schema) (scans_of scans) in
    let fault = c.in_err-try_scans.field-0.0 in
    exits (IsWhy (candidates_of schema (scans_of scans))) c.from_residual-in_err-try_scans.result
    fault c.from_residual-in_err-try_scans.ensures.1
    (why_in_scans schema here whole (scans_of (drop (i + 1) scans)) fault
    (statements_next scans i c.statement-item.result before here whole c.loop-statement-test.true
    c.statement-item.is
    (ap (λ (x : List Scan). with_candidates before (map scan_of x)) c.as_slice.ensures)
    c.loop-statement.invariant.same)
    c.in_err-try_scans.ensures.many)

pub loop-statement-preserved : goal.loop-statement-preserved
loop-statement-preserved c =
    let schema = c.args.schema.now in
    let before = known schema c.loop-statement.search in
    record {
      finds = c.in_ok-try_scans.ensures.finds;
      same = statements_next c.args.scans.now c.loop-statement.statement-index
          c.statement-item.result before (known schema c.try_scans.new.self) _
          c.loop-statement-test.true c.statement-item.is
          (c.in_ok-try_scans.ensures.added
          ∙ ap (λ (x : List Scan). with_candidates before (map scan_of x)) c.as_slice.ensures)
          c.loop-statement.invariant.same;
    }
