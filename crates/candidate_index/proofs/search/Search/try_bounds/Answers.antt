use Rattle.std.proofs.Common.{ap, sym, ◌∙◌, subst, List}
use Rattle.plan_choice.specs.Candidates.{add_list, add_lists}
use Rattle.schema_model.specs.declared.indexes.IndexColumn.{IndexColumn}
use Rattle.candidate_index.specs.Faults.{IsWhy}
use Rattle.candidate_index.specs.Known.{behind_usable}
use Rattle.candidate_index.specs.Searches.{known, Finds}
use Rattle.candidate_index.proofs.StartColumns.{seen}
use Rattle.candidate_index.proofs.ScanLists.{bound_lists, bounds_new, bounds_there, why_in_bounds}
use Rattle.candidate_index.proofs.ScanLists.{exits}
use Rattle.candidate_index.proofs.search.Search.try_bounds.Goals as goal
use Rattle.candidate_index.proofs.search.Search.try_bounds.Goals.{then-not-has+in_ok-list+in_ok-try_list}
use Rattle.candidate_index.proofs.search.Search.try_bounds.Goals.{else-not-has}

pub returns-in_err-try_list-clause-many : goal.returns-in_err-try_list-clause-many
returns-in_err-try_list-clause-many c =
    let schema = c.args.schema.now in
    let t = c.args.scan.now.table in
    let start = c.args.start.now in
    let fault = c.in_err-try_list.field-0.0 in
    let before = known schema c.loop-bound.self in
    exits (IsWhy (behind_usable schema (add_lists t (known schema c.args.self.now)
    (bound_lists start c.args.scan.now.bounds)))) c.from_residual-in_err-try_list.result fault
    c.from_residual-in_err-try_list.ensures.1
    (subst (λ (x : List IndexColumn). IsWhy (behind_usable schema
    (add_lists t (known schema c.args.self.now) (bound_lists start x))) fault)
    c.as_slice-bounds.ensures
    (why_in_bounds schema t start c.as_slice-bounds.result.now c.loop-bound.bound-index _ before _
    fault c.loop-bound-test.true (sym c.has.ensures ∙ c.if-not-has.true)
    c.loop-bound.invariant.same
    (subst (λ (x : List IndexColumn).
    IsWhy (behind_usable schema (add_list t before (seen x))) fault)
    c.in_ok-list.ensures c.in_err-try_list.ensures.many)))

pub loop-bound-preserved : goal.loop-bound-preserved
loop-bound-preserved c =
    let schema = c.args.schema.now in
    let t = c.args.scan.now.table in
    let start = c.args.start.now in
    let before = known schema c.loop-bound.self in
    elim c.if-not-has.branch [
      | then-not-has+in_ok-list+in_ok-try_list w ↦ record {
        finds = subst (Finds schema) (sym w.self-is) w.in_ok-try_list.ensures.finds;
        same = bounds_new t start c.as_slice-bounds.result.now c.loop-bound.bound-index _ before
            (known schema c.if-not-has.self) _ c.loop-bound-test.true
            (sym c.has.ensures ∙ w.if-not-has.true)
            (ap (known schema) w.self-is ∙ w.in_ok-try_list.ensures.added
            ∙ ap (λ (x : List IndexColumn). add_list t before (seen x)) w.in_ok-list.ensures)
            c.loop-bound.invariant.same;
      }
      | else-not-has w ↦ record {
        finds = subst (Finds schema) (sym w.self-is) c.loop-bound.invariant.finds;
        same = bounds_there t start c.as_slice-bounds.result.now c.loop-bound.bound-index _ before
            (known schema c.if-not-has.self) _ c.loop-bound-test.true
            (sym c.has.ensures ∙ w.if-not-has.false) (ap (known schema) w.self-is)
            c.loop-bound.invariant.same;
      }
    ]
