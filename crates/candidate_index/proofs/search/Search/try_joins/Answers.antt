use Rattle.std.proofs.Common.{◌+◌, ◌++◌, ap, ◌∙◌, subst, refl, List, drop}
use Rattle.plan_choice.specs.Candidates.{add_lists, lists_from}
use Rattle.schema_model.specs.declared.indexes.IndexColumn.{IndexColumn}
use Rattle.candidate_index.specs.Faults.{IsWhy}
use Rattle.candidate_index.specs.Known.{behind_usable}
use Rattle.candidate_index.specs.Scans.{scan_of}
use Rattle.candidate_index.specs.Searches.{known}
use Rattle.candidate_index.specs.declared.asked.JoinColumns.{JoinColumns}
use Rattle.candidate_index.proofs.StartColumns.{seen}
use Rattle.candidate_index.proofs.ScanLists.{join_lists, joins_next, why_in_lists, exits}
use Rattle.candidate_index.proofs.search.Search.try_joins.Goals as goal

pub returns-in_err-try_start-clause-many : goal.returns-in_err-try_start-clause-many
returns-in_err-try_start-clause-many c =
    let schema = c.args.schema.now in
    let scan = c.args.scan.now in
    let joins = c.as_slice-joins.result.now in
    let i = c.loop-join.join-index in
    let fault = c.in_err-try_start.field-0.0 in
    let none = known schema c.args.self.now in
    let before = known schema c.loop-join.self in
    let start = c.in_ok-start.start in
    let here = add_lists scan.table before (lists_from (scan_of scan) (seen start)) in
    let whole = add_lists scan.table none (join_lists scan joins) in
    exits (IsWhy (behind_usable schema (add_lists scan.table none (join_lists scan scan.by_item))))
    c.from_residual-in_err-try_start.result fault c.from_residual-in_err-try_start.ensures.1
    (subst (λ (x : List JoinColumns).
    IsWhy (behind_usable schema (add_lists scan.table none (join_lists scan x))) fault)
    c.as_slice-joins.ensures
    (why_in_lists schema scan.table here whole (join_lists scan (drop (i + 1) joins)) fault
    (joins_next scan joins i c.join-item.result scan.table before here whole start
    c.loop-join-test.true c.join-item.is
    (c.in_ok-start.ensures
    ∙ ap (λ (x : List IndexColumn). x ++ c.as_slice-in-loop-join.result.now) c.as_slice.ensures
    ∙ ap (λ (x : List IndexColumn). scan.equal ++ x) c.as_slice-in-loop-join.ensures)
    refl c.loop-join.invariant.same)
    c.in_err-try_start.ensures.many))

pub loop-join-preserved : goal.loop-join-preserved
loop-join-preserved c =
    let schema = c.args.schema.now in
    let scan = c.args.scan.now in
    let before = known schema c.loop-join.self in
    record {
      finds = c.in_ok-try_start.ensures.finds;
      same = joins_next scan c.as_slice-joins.result.now c.loop-join.join-index c.join-item.result
          scan.table before (known schema c.try_start.new.self) _ c.in_ok-start.start
          c.loop-join-test.true c.join-item.is
          (c.in_ok-start.ensures
          ∙ ap (λ (x : List IndexColumn). x ++ c.as_slice-in-loop-join.result.now)
          c.as_slice.ensures
          ∙ ap (λ (x : List IndexColumn). scan.equal ++ x) c.as_slice-in-loop-join.ensures)
          c.in_ok-try_start.ensures.added c.loop-join.invariant.same;
    }
