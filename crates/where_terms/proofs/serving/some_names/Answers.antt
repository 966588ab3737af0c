use Rattle.sql_bound.proofs.Named.{named_here, named_later}
use Rattle.where_terms.proofs.serving.some_names.Goals as goal

pub returns-then-names_item : goal.returns-then-names_item
returns-then-names_item c =
    named_here c.args.item c.args.list.now.members.now c.loop-member.member-index _ _ _
    c.loop-member-test.true c.names_item.ensures c.if-names_item.true c.loop-member.invariant

pub loop-member-preserved : goal.loop-member-preserved
loop-member-preserved c =
    named_later c.args.item c.args.list.now.members.now c.loop-member.member-index _ _ _
    c.loop-member-test.true c.names_item.ensures c.if-names_item.false c.loop-member.invariant
