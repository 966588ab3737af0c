use Rattle.std.proofs.Common.{◌≡◌, length, take}
use Rattle.sql_meaning.specs.Plans.{consumed_by}
use Rattle.bound_rows.specs.Levels.{Marks}
use Rattle.plan_form.specs.Plans.{plan_of}
use Rattle.plan_form.proofs.walks.consumed_marks.Given as goal

abbrev pub invariant-loop-number : goal.invariant-loop-number
invariant-loop-number l = record {
  counted : length l.marks.items ≡ length (plan_of l.plan).bound.conjuncts;
  marked : Marks l.marks.items (consumed_by (take l.number (plan_of l.plan).loops));
}
