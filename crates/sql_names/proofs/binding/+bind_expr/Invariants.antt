use Rattle.std.proofs.Common.{◌≡◌, map, drop}
use Rattle.sql_bound.specs.Expressions.{expr_of}
use Rattle.sql_names.specs.Faults.{first_failing}
use Rattle.sql_names.specs.Binding.{all_checks, all_bound, trees_of}
use Rattle.sql_names.proofs.Turns.{with_front, tree_members}
use Rattle.sql_names.proofs.binding.+bind_expr.Given as goal

abbrev pub invariant-bind_all-loop-member : goal.invariant-bind_all-loop-member
invariant-bind_all-loop-member l = record {
  checks : first_failing
      (all_checks l.scope l.owner (tree_members (drop l.member-index l.member-items)))
      ≡ first_failing (all_checks l.scope l.owner (trees_of l.list));
  meant : with_front (map expr_of l.members.items)
      (all_bound l.scope (tree_members (drop l.member-index l.member-items)))
      ≡ all_bound l.scope (trees_of l.list);
}
