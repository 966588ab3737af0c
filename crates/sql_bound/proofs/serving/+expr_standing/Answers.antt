use Rattle.std.proofs.Common.{ap, ap₂, ◌∙◌, sym}
use Rattle.sql_meaning.specs.Expressions.{names, all_names}
use Rattle.sql_bound.specs.Expressions.{expr_of, members_of}
use Rattle.sql_bound.specs.Naming.{farther_of}
use Rattle.sql_bound.proofs.Members.{expr_of-Cmp, expr_of-OneOf, expr_of-Like}
use Rattle.sql_bound.proofs.Standings.{standing-append}
use Rattle.sql_bound.proofs.StandingTurns.{standing_turn}
use Rattle.sql_bound.proofs.serving.+expr_standing.Goals as goal

pub expr_standing-returns-in-Cmp : goal.expr_standing-returns-in-Cmp
expr_standing-returns-in-Cmp t c =
    rw (
      c.in-Cmp.is,
      expr_of-Cmp c.in-Cmp.op c.in-Cmp.left c.in-Cmp.right c.in-Cmp.conv c.in-Cmp.coll,
    )
    (c.farther.ensures
    ∙ ap₂ farther_of c.expr_standing-in-Cmp.ensures c.expr_standing-in-Cmp-2.ensures
    ∙ sym
    (standing-append c.args.placed c.args.item (names (expr_of c.in-Cmp.left.now))
    (names (expr_of c.in-Cmp.right.now))))

pub expr_standing-returns-in-Like : goal.expr_standing-returns-in-Like
expr_standing-returns-in-Like t c =
    rw (c.in-Like.is, expr_of-Like c.in-Like.field-0 c.in-Like.left c.in-Like.pattern)
    (c.farther-in-Like.ensures
    ∙ ap₂ farther_of c.expr_standing-in-Like.ensures c.expr_standing-in-Like-2.ensures
    ∙ sym
    (standing-append c.args.placed c.args.item (names (expr_of c.in-Like.left.now))
    (names (expr_of c.in-Like.pattern.now))))

pub expr_standing-returns-in-OneOf : goal.expr_standing-returns-in-OneOf
expr_standing-returns-in-OneOf t c =
    rw (
      c.in-OneOf.is,
      expr_of-OneOf c.in-OneOf.not c.in-OneOf.left c.in-OneOf.entries c.in-OneOf.conv
          c.in-OneOf.coll,
    )
    (c.farther-in-OneOf.ensures
    ∙ ap₂ farther_of c.expr_standing-in-OneOf.ensures c.list_standing.ensures
    ∙ sym
    (standing-append c.args.placed c.args.item (names (expr_of c.in-OneOf.left.now))
    (all_names (members_of c.in-OneOf.entries))))

pub list_standing-loop-member-preserved : goal.list_standing-loop-member-preserved
list_standing-loop-member-preserved t c =
    standing_turn c.args.placed c.args.item c.args.list.now.members.now c.loop-member.member-index _
    c.loop-member.all c.farther-all.result _ c.loop-member-test.true
    (c.farther-all.ensures ∙ ap (farther_of c.loop-member.all) c.expr_standing.ensures)
    c.loop-member.invariant
