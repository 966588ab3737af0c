use Rattle.std.proofs.Common.{ap, ◌∙◌}
use Rattle.sql_value.specs.View.{plain_collation}
use Rattle.sql_meaning.specs.Serving.{key_under}
use Rattle.sql_bound.specs.Statements.{key_expr_of}
use Rattle.sql_bound.specs.Columns.{site_of}
use Rattle.where_terms.proofs.KeyTurns.{keys_turn}
use Rattle.where_terms.proofs.Steps.{mapped_push}
use Rattle.where_terms.proofs.serving.keys_under.Goals as goal

pub loop-member-preserved : goal.loop-member-preserved
loop-member-preserved c =
    keys_turn c.args.item (site_of c.args.column) (plain_collation c.args.coll)
    c.args.list.members.now c.loop-member.member-index _ _ _ (key_expr_of c.in-Some.key) _
    c.loop-member-test.true
    (c.in-Some.ensures
    ∙ ap (key_under (site_of c.args.column) (plain_collation c.args.coll))
    c.comparison_served.ensures)
    (mapped_push key_expr_of c.loop-member.keys.items c.push.new.list.items c.in-Some.key
    c.in_ok-push.ensures.ok)
    c.loop-member.invariant
