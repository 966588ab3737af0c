use Rattle.std.proofs.Common.{map, length, arith, refl}
use Rattle.std.proofs.lemmas.List.{length-map}
use Rattle.list_laws.proofs.Lists.{all_get}
use Rattle.sql_meaning.specs.TermLists.{terms_of_item}
use Rattle.plan_choice.specs.Scans.{scans_of_item}
use Rattle.schema_model.specs.PlainSchemas.{plain_schema}
use Rattle.sql_bound.specs.Statements.{bound_of, item_of}
use Rattle.where_terms.specs.Marked.{ItemIsMarked}
use Rattle.where_terms.specs.Views.{item_terms_of}
use Rattle.candidate_index.specs.Scans.{scan_of}
use Rattle.statement_scans.proofs.ItemTurns.{as_long, at_number}
use Rattle.statement_scans.proofs.JoinedItems.{number_more}
use Rattle.statement_scans.proofs.statement.scans_in.Goals as goal

pub bounds-terms-item : goal.bounds-terms-item
bounds-terms-item c =
    let long =
    as_long item_terms_of (terms_of_item (plain_schema c.args.schema.now) (bound_of c.args.bound.now))
    c.args.terms.now.items.now 0 (length (map item_of c.args.bound.now.items.now)) c.requires.own in
    let seen = length-map c.args.bound.now.items.now item_of in
    omega (arith, long, seen)

pub push_item-requires-clause-own : goal.push_item-requires-clause-own
push_item-requires-clause-own c =
    let seen = length-map c.args.bound.now.items.now item_of in
    at_number item_terms_of
    (terms_of_item (plain_schema c.args.schema.now) (bound_of c.args.bound.now))
    c.args.terms.now.items.now (length (map item_of c.args.bound.now.items.now)) c.loop-item.item _
    c.requires.own (omega (arith, seen))

pub push_item-requires-clause-marked : goal.push_item-requires-clause-marked
push_item-requires-clause-marked c =
    let long =
    as_long item_terms_of (terms_of_item (plain_schema c.args.schema.now) (bound_of c.args.bound.now))
    c.args.terms.now.items.now 0 (length (map item_of c.args.bound.now.items.now)) c.requires.own in
    let seen = length-map c.args.bound.now.items.now item_of in
    all_get ItemIsMarked c.args.terms.now.items.now c.loop-item.item _ c.requires.marked
    (omega (arith, long, seen))

pub loop-item-preserved : goal.loop-item-preserved
loop-item-preserved c =
    number_more (scans_of_item (plain_schema c.args.schema.now) (bound_of c.args.bound.now))
    (length c.args.bound.now.items.now) c.loop-item.item (map scan_of c.loop-item.made)
    (map scan_of c.push_item.new.made) _ _ c.loop-item-test.true refl c.in_ok-push_item.ensures
    c.loop-item.invariant
