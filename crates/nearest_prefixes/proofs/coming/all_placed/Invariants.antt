use Rattle.std.proofs.Common.{◌≡◌, ◌-◌, ℕ, List}
use Rattle.sql_meaning.specs.Statements.{all_in, numbers_from}
use Rattle.sql_bound.specs.Naming.{IsPlaced}
use Rattle.nearest_prefixes.proofs.coming.all_placed.Given as goal

-- it depends on those that are left
abbrev pub invariant-loop-other : goal.invariant-loop-other
invariant-loop-other l =
    (items : List ℕ) → IsPlaced l.placed items
    → all_in (numbers_from l.other (l.item - l.other)) items
    ≡ all_in (numbers_from 0 l.item) items
