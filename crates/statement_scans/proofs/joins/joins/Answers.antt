use Rattle.std.proofs.Common.{ap, ◌∙◌, List, map}
use Rattle.candidate_index.specs.Scans.{join_of}
use Rattle.where_terms.specs.declared.term.Term.{Term}
use Rattle.statement_scans.specs.Asked.{join_if_any, joins_from}
use Rattle.statement_scans.proofs.JoinedItems.{number_more, numbers_done, joins_same}
use Rattle.statement_scans.proofs.joins.joins.Goals as goal

pub loop-item-preserved : goal.loop-item-preserved
loop-item-preserved c =
    number_more (join_if_any c.args.numbers.now.keys c.in_ok-naming.naming.items) c.args.count
    c.loop-item.item (map join_of c.loop-item.joins) (map join_of c.push_join.new.joins)
    (join_if_any c.args.numbers.now.keys c.as_slice.result.now c.loop-item.item) _
    c.loop-item-test.true
    (ap (λ (ts : List Term). join_if_any c.args.numbers.now.keys ts c.loop-item.item)
    c.as_slice.ensures.value)
    c.in_ok-push_join.ensures c.loop-item.invariant

pub returns : goal.returns
returns c =
    let numbers = c.args.numbers.now.keys in
    numbers_done (join_if_any numbers c.in_ok-naming.naming.items) c.args.count c.loop-item.item
    (map join_of c.loop-item.joins) _ c.loop-item-test.false c.loop-item.invariant
    ∙ ap (λ (ts : List Term). joins_from numbers ts c.args.count) c.in_ok-naming.ensures
    ∙ joins_same numbers c.args.terms.now c.args.count
