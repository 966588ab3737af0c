use Rattle.std.proofs.Common.{◌++◌, ap, ap₂, ◌∙◌}
use Rattle.std.proofs.lemmas.Result.{err_from_is_err_and}
use Rattle.sql_tree.specs.Trees.{tree_of}
use Rattle.sql_tree.proofs.TreeLists.{tree_of-OneOf}
use Rattle.sql_meaning.specs.Expressions as plain
use Rattle.sql_bound.specs.Expressions.{expr_of, plain_op}
use Rattle.sql_names.specs.Faults.{first_failing}
use Rattle.sql_names.specs.Binding.{expr_checks, all_checks, bound, all_bound, trees_of}
use Rattle.sql_names.specs.Collating.{collation_or}
use Rattle.sql_names.proofs.Checks.{fails_through, fails_after, both_pass, answers_after}
use Rattle.sql_names.proofs.Parts.{compared_same, between_same, one_of_same}
use Rattle.sql_names.proofs.Trees.{tree_of-Collate, tree_of-Cmp, tree_of-Between, tree_of-Like}
use Rattle.sql_names.proofs.Turns.{checks_turn, bound_turn, fails_turn, checks_end, bound_end}
use Rattle.sql_names.proofs.binding.+bind_expr.Goals as goal

pub bind_all-returns-in_err-bound : goal.bind_all-returns-in_err-bound
bind_all-returns-in_err-bound t c =
    let e = err_from_is_err_and c.from_residual.result c.from_residual.ensures.1 in
    rw (e.1, e.2)
    (fails_turn c.args.scope.now c.args.owner c.args.list.now.members.now
    c.loop-member.member-index _ c.in_err-bound.field-0.0
    (first_failing (all_checks c.args.scope.now c.args.owner (trees_of c.args.list.now)))
    c.loop-member-test.true c.in_err-bound.ensures c.loop-member.invariant.checks)

pub bind_all-loop-member-preserved : goal.bind_all-loop-member-preserved
bind_all-loop-member-preserved t c = record {
  checks = checks_turn c.args.scope.now c.args.owner c.args.list.now.members.now
      c.loop-member.member-index _
      (first_failing (all_checks c.args.scope.now c.args.owner (trees_of c.args.list.now)))
      c.loop-member-test.true c.in_ok-bound.ensures.0 c.loop-member.invariant.checks;
  meant = bound_turn c.args.scope.now c.args.owner c.args.list.now.members.now
      c.loop-member.member-index _
      c.loop-member.members.items c.in_ok-bound.bound c.push.new.list.items
      (all_bound c.args.scope.now (trees_of c.args.list.now)) c.loop-member-test.true
      c.in_ok-push.ensures.ok c.in_ok-bound.ensures.1 c.loop-member.invariant.meant;
}

pub bind_all-returns : goal.bind_all-returns
bind_all-returns t c = (
  checks_end c.args.scope.now c.args.owner c.args.list.now.members.now c.loop-member.member-index
      (first_failing (all_checks c.args.scope.now c.args.owner (trees_of c.args.list.now)))
      c.loop-member-test.false c.loop-member.invariant.checks,
  bound_end c.args.scope.now c.args.owner c.args.list.now.members.now c.loop-member.member-index
      c.loop-member.members.items (all_bound c.args.scope.now (trees_of c.args.list.now))
      c.loop-member-test.false c.loop-member.invariant.meant,
)

pub bind_expr-returns-in_err-operand-in-Collate : goal.bind_expr-returns-in_err-operand-in-Collate
bind_expr-returns-in_err-operand-in-Collate t c =
    let r = c.from_residual-in_err-operand-in-Collate in
    let e = err_from_is_err_and r.result r.ensures.1 in
    rw (e.1, e.2, c.in-Collate.is, tree_of-Collate c.in-Collate.operand c.in-Collate.name)
    (fails_through c.in_err-operand-in-Collate.field-0.0
    (expr_checks c.args.scope.now c.args.owner (tree_of c.in-Collate.operand.now)) _
    c.in_err-operand-in-Collate.ensures)

pub bind_expr-returns-in_err-left-in-Cmp : goal.bind_expr-returns-in_err-left-in-Cmp
bind_expr-returns-in_err-left-in-Cmp t c =
    let r = c.from_residual-in_err-left-in-Cmp in
    let e = err_from_is_err_and r.result r.ensures.1 in
    rw (e.1, e.2, c.in-Cmp.is, tree_of-Cmp c.in-Cmp.op c.in-Cmp.left c.in-Cmp.right)
    (fails_through c.in_err-left-in-Cmp.field-0.0
    (expr_checks c.args.scope.now c.args.owner (tree_of c.in-Cmp.left.now)) _
    c.in_err-left-in-Cmp.ensures)

pub bind_expr-returns-in_err-right-in-Cmp : goal.bind_expr-returns-in_err-right-in-Cmp
bind_expr-returns-in_err-right-in-Cmp t c =
    let r = c.from_residual-in_err-right-in-Cmp in
    let e = err_from_is_err_and r.result r.ensures.1 in
    rw (e.1, e.2, c.in-Cmp.is, tree_of-Cmp c.in-Cmp.op c.in-Cmp.left c.in-Cmp.right)
    (fails_after c.in_err-right-in-Cmp.field-0.0
    (expr_checks c.args.scope.now c.args.owner (tree_of c.in-Cmp.left.now))
    (expr_checks c.args.scope.now c.args.owner (tree_of c.in-Cmp.right.now))
    c.in_ok-left-in-Cmp.ensures.0
    c.in_err-right-in-Cmp.ensures)

pub bind_expr-returns-in_err-middle-in-Between : goal.bind_expr-returns-in_err-middle-in-Between
bind_expr-returns-in_err-middle-in-Between t c =
    let b = c.in-Between in
    let r = c.from_residual-in_err-middle-in-Between in
    let e = err_from_is_err_and r.result r.ensures.1 in
    rw (e.1, e.2, b.is, tree_of-Between b.negated b.middle b.low b.high)
    (fails_through c.in_err-middle-in-Between.field-0.0
    (expr_checks c.args.scope.now c.args.owner (tree_of b.middle.now)) _
    c.in_err-middle-in-Between.ensures)

pub bind_expr-returns-in_err-low-in-Between : goal.bind_expr-returns-in_err-low-in-Between
bind_expr-returns-in_err-low-in-Between t c =
    let b = c.in-Between in
    let r = c.from_residual-in_err-low-in-Between in
    let e = err_from_is_err_and r.result r.ensures.1 in
    let low = expr_checks c.args.scope.now c.args.owner (tree_of b.low.now) in
    let high = expr_checks c.args.scope.now c.args.owner (tree_of b.high.now) in
    rw (e.1, e.2, b.is, tree_of-Between b.negated b.middle b.low b.high)
    (fails_after c.in_err-low-in-Between.field-0.0
    (expr_checks c.args.scope.now c.args.owner (tree_of b.middle.now)) (low ++ high)
    c.in_ok-middle-in-Between.ensures.0
    (fails_through c.in_err-low-in-Between.field-0.0 low high c.in_err-low-in-Between.ensures))

pub bind_expr-returns-in_err-high-in-Between : goal.bind_expr-returns-in_err-high-in-Between
bind_expr-returns-in_err-high-in-Between t c =
    let b = c.in-Between in
    let r = c.from_residual-in_err-high-in-Between in
    let e = err_from_is_err_and r.result r.ensures.1 in
    let low = expr_checks c.args.scope.now c.args.owner (tree_of b.low.now) in
    let high = expr_checks c.args.scope.now c.args.owner (tree_of b.high.now) in
    rw (e.1, e.2, b.is, tree_of-Between b.negated b.middle b.low b.high)
    (fails_after c.in_err-high-in-Between.field-0.0
    (expr_checks c.args.scope.now c.args.owner (tree_of b.middle.now)) (low ++ high)
    c.in_ok-middle-in-Between.ensures.0
    (fails_after c.in_err-high-in-Between.field-0.0 low high c.in_ok-low-in-Between.ensures.0
    c.in_err-high-in-Between.ensures))

pub bind_expr-returns-in_err-sought-in-OneOf : goal.bind_expr-returns-in_err-sought-in-OneOf
bind_expr-returns-in_err-sought-in-OneOf t c =
    let o = c.in-OneOf in
    let r = c.from_residual-in_err-sought-in-OneOf in
    let e = err_from_is_err_and r.result r.ensures.1 in
    rw (e.1, e.2, o.is, tree_of-OneOf o.negated o.sought o.entries)
    (fails_through c.in_err-sought-in-OneOf.field-0.0
    (expr_checks c.args.scope.now c.args.owner (tree_of o.sought.now)) _
    c.in_err-sought-in-OneOf.ensures)

pub bind_expr-returns-in_err-entries-in-OneOf : goal.bind_expr-returns-in_err-entries-in-OneOf
bind_expr-returns-in_err-entries-in-OneOf t c =
    let o = c.in-OneOf in
    let r = c.from_residual-in_err-entries-in-OneOf in
    let e = err_from_is_err_and r.result r.ensures.1 in
    rw (e.1, e.2, o.is, tree_of-OneOf o.negated o.sought o.entries)
    (fails_after c.in_err-entries-in-OneOf.field-0.0
    (expr_checks c.args.scope.now c.args.owner (tree_of o.sought.now))
    (all_checks c.args.scope.now c.args.owner (trees_of o.entries))
    c.in_ok-sought-in-OneOf.ensures.0
    c.in_err-entries-in-OneOf.ensures)

pub bind_expr-returns-in_ok-operand-in-Collate : goal.bind_expr-returns-in_ok-operand-in-Collate
bind_expr-returns-in_ok-operand-in-Collate t c =
    let k = c.in-Collate in
    rw (k.is, tree_of-Collate k.operand k.name)
    (answers_after expr_of c.collated.result
    (expr_checks c.args.scope.now c.args.owner (tree_of k.operand.now)) _
    (plain.Collate (expr_of c.in_ok-operand-in-Collate.operand) (collation_or k.name.now))
    (plain.Collate (bound c.args.scope.now (tree_of k.operand.now)) (collation_or k.name.now))
    c.in_ok-operand-in-Collate.ensures.0
    (ap (λ x. plain.Collate x (collation_or k.name.now)) c.in_ok-operand-in-Collate.ensures.1)
    c.collated.ensures)

pub bind_expr-returns-in_ok-compared-in-Cmp : goal.bind_expr-returns-in_ok-compared-in-Cmp
bind_expr-returns-in_ok-compared-in-Cmp t c =
    let k = c.in-Cmp in
    let scope = c.args.scope.now in
    let owner = c.args.owner in
    let left = c.in_ok-left-in-Cmp in
    let right = c.in_ok-right-in-Cmp in
    rw (k.is, tree_of-Cmp k.op k.left k.right) (
      both_pass (expr_checks scope owner (tree_of k.left.now))
          (expr_checks scope owner (tree_of k.right.now))
          left.ensures.0 right.ensures.0,
      compared_same scope (plain_op k.op) (expr_of c.in_ok-compared-in-Cmp.field-0)
          (expr_of left.left) (expr_of right.right) (bound scope (tree_of k.left.now))
          (bound scope (tree_of k.right.now)) c.in_ok-compared-in-Cmp.ensures left.ensures.1
          right.ensures.1,
    )

pub bind_expr-returns-in_ok-between-in-Between : goal.bind_expr-returns-in_ok-between-in-Between
bind_expr-returns-in_ok-between-in-Between t c =
    let b = c.in-Between in
    let scope = c.args.scope.now in
    let owner = c.args.owner in
    let middle = c.in_ok-middle-in-Between in
    let low = c.in_ok-low-in-Between in
    let high = c.in_ok-high-in-Between in
    rw (b.is, tree_of-Between b.negated b.middle b.low b.high) (
      both_pass (expr_checks scope owner (tree_of b.middle.now))
          (expr_checks scope owner (tree_of b.low.now)
          ++ expr_checks scope owner (tree_of b.high.now))
          middle.ensures.0
          (both_pass (expr_checks scope owner (tree_of b.low.now))
          (expr_checks scope owner (tree_of b.high.now)) low.ensures.0 high.ensures.0),
      between_same scope b.negated (expr_of c.in_ok-between-in-Between.field-0)
          (expr_of middle.middle) (expr_of low.low) (expr_of high.high)
          (bound scope (tree_of b.middle.now)) (bound scope (tree_of b.low.now))
          (bound scope (tree_of b.high.now)) c.in_ok-between-in-Between.ensures middle.ensures.1
          low.ensures.1 high.ensures.1,
    )

pub bind_expr-returns-in_ok-one_of-in-OneOf : goal.bind_expr-returns-in_ok-one_of-in-OneOf
bind_expr-returns-in_ok-one_of-in-OneOf t c =
    let o = c.in-OneOf in
    let scope = c.args.scope.now in
    let owner = c.args.owner in
    let sought = c.in_ok-sought-in-OneOf in
    let entries = c.in_ok-entries-in-OneOf in
    rw (o.is, tree_of-OneOf o.negated o.sought o.entries) (
      both_pass (expr_checks scope owner (tree_of o.sought.now))
          (all_checks scope owner (trees_of o.entries))
          sought.ensures.0 entries.ensures.0,
      one_of_same scope o.negated (expr_of c.in_ok-one_of-in-OneOf.field-0)
          (expr_of sought.sought) (bound scope (tree_of o.sought.now)) c.as_slice.result.now
          entries.entries.items (all_bound scope (trees_of o.entries))
          c.in_ok-one_of-in-OneOf.ensures c.as_slice.ensures.value sought.ensures.1
          entries.ensures.1,
    )

pub bind_expr-returns-in_err-matched-in-Like : goal.bind_expr-returns-in_err-matched-in-Like
bind_expr-returns-in_err-matched-in-Like t c =
    let k = c.in-Like in
    let r = c.from_residual-in_err-matched-in-Like in
    let e = err_from_is_err_and r.result r.ensures.1 in
    rw (e.1, e.2, k.is, tree_of-Like k.negated k.matched k.pattern)
    (fails_through c.in_err-matched-in-Like.field-0.0
    (expr_checks c.args.scope.now c.args.owner (tree_of k.matched.now)) _
    c.in_err-matched-in-Like.ensures)

pub bind_expr-returns-in_err-pattern-in-Like : goal.bind_expr-returns-in_err-pattern-in-Like
bind_expr-returns-in_err-pattern-in-Like t c =
    let k = c.in-Like in
    let r = c.from_residual-in_err-pattern-in-Like in
    let e = err_from_is_err_and r.result r.ensures.1 in
    rw (e.1, e.2, k.is, tree_of-Like k.negated k.matched k.pattern)
    (fails_after c.in_err-pattern-in-Like.field-0.0
    (expr_checks c.args.scope.now c.args.owner (tree_of k.matched.now))
    (expr_checks c.args.scope.now c.args.owner (tree_of k.pattern.now))
    c.in_ok-matched-in-Like.ensures.0 c.in_err-pattern-in-Like.ensures)

pub bind_expr-returns-in_ok-like-in-Like : goal.bind_expr-returns-in_ok-like-in-Like
bind_expr-returns-in_ok-like-in-Like t c =
    let k = c.in-Like in
    let scope = c.args.scope.now in
    let owner = c.args.owner in
    let matched = c.in_ok-matched-in-Like in
    let pattern = c.in_ok-pattern-in-Like in
    rw (k.is, tree_of-Like k.negated k.matched k.pattern) (
      both_pass (expr_checks scope owner (tree_of k.matched.now))
          (expr_checks scope owner (tree_of k.pattern.now)) matched.ensures.0 pattern.ensures.0,
      c.in_ok-like-in-Like.ensures
          ∙ ap₂ (plain.Like k.negated) matched.ensures.1 pattern.ensures.1,
    )
