use Rattle.std.proofs.Common.{◌≡◌, ◌∷◌, [], ◌++◌, subst, List, IfErr, OnOk}
use Rattle.sql_meaning.specs.Schemas as plain
use Rattle.plan_choice.specs.Candidates.{add_lists, lists_from, then_order}
use Rattle.candidate_index.specs.Faults.{IsWhy}
use Rattle.candidate_index.specs.Known.{behind_usable}
use Rattle.candidate_index.specs.Scans.{scan_of}
use Rattle.candidate_index.specs.Searches.{known}
use Rattle.candidate_index.proofs.StartColumns.{seen}
use Rattle.candidate_index.proofs.ScanLists.{bound_lists, start_chain, why_first, why_second, exits}
use Rattle.candidate_index.proofs.search.Search.try_start.Goals as goal

pub returns-in_err-try_order-clause-many : goal.returns-in_err-try_order-clause-many
returns-in_err-try_order-clause-many c =
    let schema = c.args.schema.now in
    let scan = c.args.scan.now in
    let start = c.args.start.now in
    let none = known schema c.args.self.now in
    let fault = c.in_err-try_order.field-0.0 in
    exits (IsWhy (behind_usable schema
    (add_lists scan.table none (lists_from (scan_of scan) (seen start)))))
    c.from_residual.result fault c.from_residual.ensures.1
    (why_first schema scan.table (then_order (seen start) (seen scan.order))
    (bound_lists start scan.bounds ++ seen start ∷ []) none fault c.in_err-try_order.ensures.many)

pub returns-in_err-try_bounds-clause-many : goal.returns-in_err-try_bounds-clause-many
returns-in_err-try_bounds-clause-many c =
    let schema = c.args.schema.now in
    let scan = c.args.scan.now in
    let start = c.args.start.now in
    let none = known schema c.args.self.now in
    let fault = c.in_err-try_bounds.field-0.0 in
    exits (IsWhy (behind_usable schema
    (add_lists scan.table none (lists_from (scan_of scan) (seen start)))))
    c.from_residual-in_err-try_bounds.result fault c.from_residual-in_err-try_bounds.ensures.1
    (why_second schema scan.table (then_order (seen start) (seen scan.order))
    (bound_lists start scan.bounds) (seen start ∷ []) none
    (known schema c.try_order.new.self) fault c.in_ok-try_order.ensures.added
    c.in_err-try_bounds.ensures.many)

pub returns-clause-added : goal.returns-clause-added
returns-clause-added c =
    let schema = c.args.schema.now in
    let scan = c.args.scan.now in
    let start = c.args.start.now in
    subst (λ (x : List plain.Index). OnOk c.try_list.result (known schema c.try_list.new.self ≡ x))
    (start_chain scan.table (then_order (seen start) (seen scan.order))
    (bound_lists start scan.bounds) start c.in_ok-alone.alone (known schema c.args.self.now)
    (known schema c.try_order.new.self) (known schema c.try_bounds.new.self)
    c.in_ok-try_order.ensures.added c.in_ok-try_bounds.ensures.added c.in_ok-alone.ensures)
    c.try_list.ensures.added

pub returns-clause-many : goal.returns-clause-many
returns-clause-many c =
    let schema = c.args.schema.now in
    let scan = c.args.scan.now in
    let start = c.args.start.now in
    subst (λ (x : List plain.Index). IfErr c.try_list.result (IsWhy (behind_usable schema x)))
    (start_chain scan.table (then_order (seen start) (seen scan.order))
    (bound_lists start scan.bounds) start c.in_ok-alone.alone (known schema c.args.self.now)
    (known schema c.try_order.new.self) (known schema c.try_bounds.new.self)
    c.in_ok-try_order.ensures.added c.in_ok-try_bounds.ensures.added c.in_ok-alone.ensures)
    c.try_list.ensures.many
