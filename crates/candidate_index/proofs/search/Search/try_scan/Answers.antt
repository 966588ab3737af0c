use Rattle.std.proofs.Common.{◌≡◌, ◌++◌, [], ap, ◌∙◌, subst, List, IfErr, OnOk}
use Rattle.std.proofs.lemmas.List.{append-nil}
use Rattle.sql_meaning.specs.Schemas as plain
use Rattle.plan_choice.specs.Candidates.{add_lists, lists_of}
use Rattle.schema_model.specs.declared.indexes.IndexColumn.{IndexColumn}
use Rattle.candidate_index.specs.Faults.{IsWhy}
use Rattle.candidate_index.specs.Known.{behind_usable}
use Rattle.candidate_index.specs.Scans.{scan_of}
use Rattle.candidate_index.specs.Searches.{known}
use Rattle.candidate_index.proofs.ScanLists.{scan_chain, why_in_all, why_in_joins, exits}
use Rattle.candidate_index.proofs.search.Search.try_scan.Goals as goal

pub returns-in_err-try_start-clause-many : goal.returns-in_err-try_start-clause-many
returns-in_err-try_start-clause-many c =
    let schema = c.args.schema.now in
    let scan = c.args.scan.now in
    let fault = c.in_err-try_start.field-0.0 in
    let none = known schema c.args.self.now in
    exits (IsWhy (behind_usable schema (add_lists scan.table none (lists_of (scan_of scan)))))
    c.from_residual-in_err-try_start.result fault c.from_residual-in_err-try_start.ensures.1
    (why_in_all schema scan scan.table c.in_ok-all.all none fault
    (c.in_ok-all.ensures
    ∙ ap (λ (x : List IndexColumn). x ++ c.as_slice-2.result.now) c.as_slice.ensures
    ∙ ap (λ (x : List IndexColumn). scan.equal ++ x) c.as_slice-2.ensures)
    c.in_err-try_start.ensures.many)

pub returns-in_err-try_joins-clause-many : goal.returns-in_err-try_joins-clause-many
returns-in_err-try_joins-clause-many c =
    let schema = c.args.schema.now in
    let scan = c.args.scan.now in
    let fault = c.in_err-try_joins.field-0.0 in
    let none = known schema c.args.self.now in
    exits (IsWhy (behind_usable schema (add_lists scan.table none (lists_of (scan_of scan)))))
    c.from_residual-in_err-try_joins.result fault c.from_residual-in_err-try_joins.ensures.1
    (why_in_joins schema scan scan.table c.in_ok-all.all none (known schema c.try_start.new.self)
    fault
    (c.in_ok-all.ensures
    ∙ ap (λ (x : List IndexColumn). x ++ c.as_slice-2.result.now) c.as_slice.ensures
    ∙ ap (λ (x : List IndexColumn). scan.equal ++ x) c.as_slice-2.ensures)
    c.in_ok-try_start.ensures.added c.in_err-try_joins.ensures.many)

pub returns-clause-added : goal.returns-clause-added
returns-clause-added c =
    let schema = c.args.schema.now in
    let scan = c.args.scan.now in
    subst (λ (x : List plain.Index).
    OnOk c.try_start-2.result (known schema c.try_start-2.new.self ≡ x))
    (scan_chain scan scan.table c.in_ok-all.all c.in_ok-equal.equal (known schema c.args.self.now)
    (known schema c.try_start.new.self) (known schema c.try_joins.new.self)
    (c.in_ok-all.ensures
    ∙ ap (λ (x : List IndexColumn). x ++ c.as_slice-2.result.now) c.as_slice.ensures
    ∙ ap (λ (x : List IndexColumn). scan.equal ++ x) c.as_slice-2.ensures)
    (c.in_ok-equal.ensures
    ∙ ap (λ (x : List IndexColumn). x ++ []) c.as_slice-3.ensures ∙ append-nil scan.equal)
    c.in_ok-try_start.ensures.added c.in_ok-try_joins.ensures.added)
    c.try_start-2.ensures.added

pub returns-clause-many : goal.returns-clause-many
returns-clause-many c =
    let schema = c.args.schema.now in
    let scan = c.args.scan.now in
    subst (λ (x : List plain.Index). IfErr c.try_start-2.result (IsWhy (behind_usable schema x)))
    (scan_chain scan scan.table c.in_ok-all.all c.in_ok-equal.equal (known schema c.args.self.now)
    (known schema c.try_start.new.self) (known schema c.try_joins.new.self)
    (c.in_ok-all.ensures
    ∙ ap (λ (x : List IndexColumn). x ++ c.as_slice-2.result.now) c.as_slice.ensures
    ∙ ap (λ (x : List IndexColumn). scan.equal ++ x) c.as_slice-2.ensures)
    (c.in_ok-equal.ensures
    ∙ ap (λ (x : List IndexColumn). x ++ []) c.as_slice-3.ensures ∙ append-nil scan.equal)
    c.in_ok-try_start.ensures.added c.in_ok-try_joins.ensures.added)
    c.try_start-2.ensures.many
