use Rattle.sql_meaning.specs.Expressions.{names, all_names}
use Rattle.sql_bound.specs.Expressions.{expr_of, members_of}
use Rattle.sql_bound.proofs.Members.{expr_of-Cmp, expr_of-OneOf, expr_of-Like}
use Rattle.sql_bound.proofs.Named.{named_first, named_second, named_here, named_later}
use Rattle.sql_bound.proofs.naming.+names_item.Goals as goal

pub names_item-returns-then-names_item : goal.names_item-returns-then-names_item
names_item-returns-then-names_item t c =
    rw (
      c.in-Cmp.is,
      expr_of-Cmp c.in-Cmp.op c.in-Cmp.left c.in-Cmp.right c.in-Cmp.conv c.in-Cmp.coll,
    )
    (named_first c.args.item (names (expr_of c.in-Cmp.left.now))
    (names (expr_of c.in-Cmp.right.now)) _ c.names_item-in-Cmp.ensures c.if-names_item.true)

pub names_item-returns-else-names_item : goal.names_item-returns-else-names_item
names_item-returns-else-names_item t c =
    rw (
      c.in-Cmp.is,
      expr_of-Cmp c.in-Cmp.op c.in-Cmp.left c.in-Cmp.right c.in-Cmp.conv c.in-Cmp.coll,
    )
    (named_second c.args.item (names (expr_of c.in-Cmp.left.now))
    (names (expr_of c.in-Cmp.right.now)) _ _ c.names_item-in-Cmp.ensures c.if-names_item.false
    c.names_item-else-names_item.ensures)

pub names_item-returns-then-names_item-2 : goal.names_item-returns-then-names_item-2
names_item-returns-then-names_item-2 t c =
    rw (
      c.in-OneOf.is,
      expr_of-OneOf c.in-OneOf.not c.in-OneOf.left c.in-OneOf.entries c.in-OneOf.conv
          c.in-OneOf.coll,
    )
    (named_first c.args.item (names (expr_of c.in-OneOf.left.now))
    (all_names (members_of c.in-OneOf.entries)) _ c.names_item-in-OneOf.ensures
    c.if-names_item-2.true)

pub names_item-returns-else-names_item-2 : goal.names_item-returns-else-names_item-2
names_item-returns-else-names_item-2 t c =
    rw (
      c.in-OneOf.is,
      expr_of-OneOf c.in-OneOf.not c.in-OneOf.left c.in-OneOf.entries c.in-OneOf.conv
          c.in-OneOf.coll,
    )
    (named_second c.args.item (names (expr_of c.in-OneOf.left.now))
    (all_names (members_of c.in-OneOf.entries)) _ _ c.names_item-in-OneOf.ensures
    c.if-names_item-2.false c.some_names.ensures)

pub some_names-returns-then-names_item : goal.some_names-returns-then-names_item
some_names-returns-then-names_item t c =
    named_here c.args.item c.args.list.now.members.now c.loop-member.member-index _ _ _
    c.loop-member-test.true c.names_item.ensures c.if-names_item.true c.loop-member.invariant

pub some_names-loop-member-preserved : goal.some_names-loop-member-preserved
some_names-loop-member-preserved t c =
    named_later c.args.item c.args.list.now.members.now c.loop-member.member-index _ _ _
    c.loop-member-test.true c.names_item.ensures c.if-names_item.false c.loop-member.invariant

pub names_item-returns-then-names_item-3 : goal.names_item-returns-then-names_item-3
names_item-returns-then-names_item-3 t c =
    rw (c.in-Like.is, expr_of-Like c.in-Like.field-0 c.in-Like.left c.in-Like.pattern)
    (named_first c.args.item (names (expr_of c.in-Like.left.now))
    (names (expr_of c.in-Like.pattern.now)) _ c.names_item-in-Like.ensures c.if-names_item-3.true)

pub names_item-returns-else-names_item-3 : goal.names_item-returns-else-names_item-3
names_item-returns-else-names_item-3 t c =
    rw (c.in-Like.is, expr_of-Like c.in-Like.field-0 c.in-Like.left c.in-Like.pattern)
    (named_second c.args.item (names (expr_of c.in-Like.left.now))
    (names (expr_of c.in-Like.pattern.now)) _ _ c.names_item-in-Like.ensures
    c.if-names_item-3.false c.names_item-else-names_item-3.ensures)
