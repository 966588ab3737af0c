use Rattle.std.proofs.Common.{length}
use Rattle.schema_model.specs.PlainSchemas.{plain_schema}
use Rattle.sql_bound.specs.Statements.{bound_of}
use Rattle.where_terms.specs.Views.{item_terms_of}
use Rattle.sql_meaning.specs.TermLists.{terms_of_item}
use Rattle.where_terms.proofs.OrTerms.{number_turn}
use Rattle.where_terms.proofs.Steps.{mapped_push}
use Rattle.where_terms.proofs.statement.items.Goals as goal

pub loop-item-preserved : goal.loop-item-preserved
loop-item-preserved c =
    number_turn (terms_of_item (plain_schema c.args.schema.now) (bound_of c.args.bound.now))
    (length c.args.bound.now.items.now) c.loop-item.item _ _ _ _ c.loop-item-test.true
    c.in_ok-terms.ensures
    (mapped_push item_terms_of c.loop-item.items.items c.push.new.list.items c.in_ok-terms.terms
    c.in_ok-push.ensures.ok)
    c.loop-item.invariant
