use Rattle.std.proofs.Common.{◌≡◌, ◌++◌, ℕ, List, drop, map}
use Rattle.sql_bound.specs.Naming.{IsPlaced}
use Rattle.sql_bound.specs.Statements.{conjunct_of}
use Rattle.path_costs.specs.Due.{due_from}
use Rattle.path_costs.proofs.due.due_of_all.Given as goal

abbrev pub invariant-loop-number : goal.invariant-loop-number
invariant-loop-number l = (items : List ℕ) → IsPlaced l.placed items
    → l.due
    ++ due_from items l.item l.number (drop l.number (map conjunct_of l.bound.conjuncts.now))
    ≡ due_from items l.item 0 (map conjunct_of l.bound.conjuncts.now)
