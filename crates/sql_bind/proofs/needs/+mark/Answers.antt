use Rattle.sql_bound.specs.Expressions.{expr_of, members_of}
use Rattle.sql_bound.proofs.Members.{expr_of-OneOf}
use Rattle.sql_bind.specs.Needs.{names_column, some_names_column}
use Rattle.sql_bind.proofs.MarkLaws.{marks_both, marks_turn}
use Rattle.sql_bind.proofs.needs.+mark.Goals as goal

pub mark-returns-in-OneOf : goal.mark-returns-in-OneOf
mark-returns-in-OneOf t c =
    rw (
      c.in-OneOf.is,
      expr_of-OneOf c.in-OneOf.not c.in-OneOf.left c.in-OneOf.entries c.in-OneOf.conv
          c.in-OneOf.coll,
    )
    (marks_both (λ column. names_column c.args.item column (expr_of c.in-OneOf.left.now))
    (λ column. some_names_column c.args.item column (members_of c.in-OneOf.entries))
    c.args.marks.now c.mark-in-OneOf.new.marks c.mark_all.new.marks c.mark-in-OneOf.ensures
    c.mark_all.ensures)

pub mark_all-loop-member-preserved : goal.mark_all-loop-member-preserved
mark_all-loop-member-preserved t c =
    marks_turn c.args.item c.args.list.now.members.now c.loop-member.member-index _ c.args.marks.now
    c.loop-member.marks c.mark.new.marks c.loop-member-test.true c.loop-member.invariant
    c.mark.ensures
