use Rattle.std.proofs.Common.{◌≡◌, ◌++◌, ◌<◌, ◌==◌, length, drop, map}
use Rattle.std.specs.List.{AllByRecursion}
use Rattle.plan_form.specs.Texts.{joined_at, joined, equal_tests, told_column}
use Rattle.plan_form.proofs.text.append_equal_tests.Given as goal

-- what is left to be written
abbrev pub invariant-loop-place : goal.invariant-loop-place
invariant-loop-place l = record {
  written : l.text ++ joined_at (l.place == 0) (equal_tests
      (map (λ c. told_column l.table c.column) (drop l.place l.columns)))
      ≡ l.initial.text ++ joined (equal_tests
      (map (λ c. told_column l.table c.column) l.columns));
  inside : AllByRecursion (λ c. c.column < length l.table.columns) (drop l.place l.columns);
}
