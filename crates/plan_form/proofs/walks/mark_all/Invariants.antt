use Rattle.std.proofs.Common.{◌≡◌, ◌++◌, ℕ, List, length, take}
use Rattle.bound_rows.specs.Levels.{Marks}
use Rattle.plan_form.proofs.walks.mark_all.Given as goal

abbrev pub invariant-loop-number : goal.invariant-loop-number
invariant-loop-number l = record {
  counted : length l.marks.items ≡ length l.fn.marks.items;
  marked : (before : List ℕ) → Marks l.fn.marks.items before
      → Marks l.marks.items (before ++ take l.number-index l.numbers);
}
