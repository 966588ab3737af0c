use Rattle.std.proofs.Common.{◌≡◌, ◌++◌, ℕ, List, drop, map}
use Rattle.sql_bound.specs.Naming.{IsPlaced}
use Rattle.sql_bound.specs.Statements.{conjunct_of}
use Rattle.bound_rows.specs.Levels as meant
use Rattle.bound_rows.specs.Levels.{Marks}
use Rattle.bound_rows.specs.Readable.{lent_exprs}
use Rattle.bound_rows.proofs.levels.due_exprs.Given as goal

abbrev pub invariant-loop-number : goal.invariant-loop-number
invariant-loop-number l = (items numbers : List ℕ) → IsPlaced l.placed items → Marks l.consumed numbers
    → lent_exprs l.due.items
    ++ meant.due_exprs l.owned numbers items l.item l.number
    (drop l.number (map conjunct_of l.bound.conjuncts.now))
    ≡ meant.due_exprs l.owned numbers items l.item 0 (map conjunct_of l.bound.conjuncts.now)
