use Rattle.std.proofs.Common.{◌≡◌, ◌==◌, ◌++◌, ap, sym, ◌∙◌, subst, List, length, IfErr, OnOk}
use Rattle.sql_meaning.specs.Schemas as plain
use Rattle.plan_choice.specs.Scans.{apart_from}
use Rattle.schema_model.specs.Schemas.{columns_at}
use Rattle.schema_model.specs.declared.indexes.IndexColumn.{IndexColumn}
use Rattle.candidate_index.specs.Faults.{IsWhy}
use Rattle.candidate_index.specs.Known.{behind_usable}
use Rattle.candidate_index.specs.Searches.{known}
use Rattle.candidate_index.proofs.StartColumns.{seen, AreBelow, of_below, below_of, below_then}
use Rattle.candidate_index.proofs.ScanLists.{order_whole}
use Rattle.candidate_index.proofs.search.Search.try_order.Goals as goal

pub try_list-requires-clause-columns : goal.try_list-requires-clause-columns
try_list-requires-clause-columns c =
    let start = c.args.start.now in
    let order = c.args.scan.now.order in
    let table = columns_at c.args.schema.now.tables c.args.scan.now.table in
    let list : seen c.in_ok-list.list ≡ seen start ++ apart_from (seen start) (seen order) =
    c.in_ok-list.ensures
    ∙ ap (λ (x : List IndexColumn). seen start ++ apart_from (seen start) (seen x))
    c.as_slice-2.ensures in
    of_below table c.in_ok-list.list
    (subst (AreBelow (length table)) (sym list)
    (below_then (length table) (seen start) (seen order) (below_of table start c.requires.start)
    (below_of table order c.requires.scan.order)))

pub returns-clause-added : goal.returns-clause-added
returns-clause-added c =
    let schema = c.args.schema.now in
    let start = c.args.start.now in
    let order = c.args.scan.now.order in
    subst (λ (x : List plain.Index). OnOk c.try_list.result (known schema c.try_list.new.self ≡ x))
    (order_whole c.args.scan.now.table (known schema c.args.self.now) start order c.in_ok-list.list
    (ap (λ (x : List IndexColumn). length x == 0) (sym c.as_slice.ensures)
    ∙ sym c.is_empty.ensures ∙ c.if-is_empty.false)
    (c.in_ok-list.ensures
    ∙ ap (λ (x : List IndexColumn). seen start ++ apart_from (seen start) (seen x))
    c.as_slice-2.ensures))
    c.try_list.ensures.added

pub returns-clause-many : goal.returns-clause-many
returns-clause-many c =
    let schema = c.args.schema.now in
    let start = c.args.start.now in
    let order = c.args.scan.now.order in
    subst (λ (x : List plain.Index). IfErr c.try_list.result (IsWhy (behind_usable schema x)))
    (order_whole c.args.scan.now.table (known schema c.args.self.now) start order c.in_ok-list.list
    (ap (λ (x : List IndexColumn). length x == 0) (sym c.as_slice.ensures)
    ∙ sym c.is_empty.ensures ∙ c.if-is_empty.false)
    (c.in_ok-list.ensures
    ∙ ap (λ (x : List IndexColumn). seen start ++ apart_from (seen start) (seen x))
    c.as_slice-2.ensures))
    c.try_list.ensures.many
