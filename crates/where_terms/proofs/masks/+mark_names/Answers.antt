use Rattle.sql_meaning.specs.Expressions.{names, all_names}
use Rattle.sql_bound.specs.Expressions.{expr_of, members_of}
use Rattle.sql_bound.proofs.Members.{expr_of-Cmp, expr_of-OneOf, expr_of-Like}
use Rattle.where_terms.proofs.MarkTurns.{marks_both, members_turn}
use Rattle.where_terms.proofs.masks.+mark_names.Goals as goal

pub mark_names-returns-in-Cmp : goal.mark_names-returns-in-Cmp
mark_names-returns-in-Cmp t c =
    rw (
      c.in-Cmp.is,
      expr_of-Cmp c.in-Cmp.op c.in-Cmp.left c.in-Cmp.right c.in-Cmp.conv c.in-Cmp.coll,
    )
    (marks_both c.args.mask (names (expr_of c.in-Cmp.left.now)) (names (expr_of c.in-Cmp.right.now))
    _ _ c.mark_names-in-Cmp.ensures c.mark_names-in-Cmp-2.ensures)

pub mark_names-returns-in-Like : goal.mark_names-returns-in-Like
mark_names-returns-in-Like t c =
    rw (c.in-Like.is, expr_of-Like c.in-Like.field-0 c.in-Like.left c.in-Like.pattern)
    (marks_both c.args.mask (names (expr_of c.in-Like.left.now))
    (names (expr_of c.in-Like.pattern.now)) _ _ c.mark_names-in-Like.ensures
    c.mark_names-in-Like-2.ensures)

pub mark_names-returns-in-OneOf : goal.mark_names-returns-in-OneOf
mark_names-returns-in-OneOf t c =
    rw (
      c.in-OneOf.is,
      expr_of-OneOf c.in-OneOf.not c.in-OneOf.left c.in-OneOf.entries c.in-OneOf.conv
          c.in-OneOf.coll,
    )
    (marks_both c.args.mask (names (expr_of c.in-OneOf.left.now))
    (all_names (members_of c.in-OneOf.entries)) _ _ c.mark_names-in-OneOf.ensures
    c.mark_list.ensures)

pub mark_list-loop-member-preserved : goal.mark_list-loop-member-preserved
mark_list-loop-member-preserved t c =
    members_turn c.args.list.now.members.now c.loop-member.member-index _ c.loop-member.marked _ _
    c.loop-member-test.true c.mark_names-marked.ensures c.loop-member.invariant
