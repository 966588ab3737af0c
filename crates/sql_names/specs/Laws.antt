-- What is bound is sound, and stays to the left where it has to.
use Rattle.std.specs.Prelude.{◌≡◌, ◌≤◌, ℕ, Some, None}
use Rattle.std.specs.List.{AllByRecursion}
use Rattle.sql_meaning.specs.Expressions.{names}
use Rattle.sql_tree.specs.Trees.{Tree}
use Rattle.sql_bound.specs.Fits.{IsSound}
use Rattle.schema_model.specs.PlainSchemas.{plain_schema}
use Rattle.sql_names.specs.Scopes.{Scope, IsScope}
use Rattle.sql_names.specs.Faults.{first_failing}
use Rattle.sql_names.specs.Binding.{bound, expr_checks}

-- the names in it are there, and it keeps the conversions that its operands ask for
abbrev pub BoundIsSound : Type 0
BoundIsSound =
    (scope : Scope) (tree : Tree) → IsScope scope
    → IsSound (plain_schema scope.schema) scope.items (bound scope tree)

-- an expression of the owner's ON condition that passes its checks names no item to the right of it
abbrev pub BoundStaysLeft : Type 0
BoundStaysLeft =
    (scope : Scope) (owner : ℕ) (tree : Tree) → IsScope scope
    → first_failing (expr_checks scope (Some owner) tree) ≡ None
    → AllByRecursion (λ item. item ≤ owner) (names (bound scope tree))
