-- The scans of the branches of an OR, each with terms that are given.
use Rattle.std.specs.Prelude.{ℕ, List, [], ◌∷◌, length, slice_get, Option, Some, None}
use Rattle.sql_meaning.specs.Expressions.{BExpr, BExprs, Nil, More, Any, flat}
use Rattle.sql_meaning.specs.Schemas.{Schema}
use Rattle.sql_meaning.specs.Statements.{Bound, Conjunct, table_of}
use Rattle.sql_meaning.specs.Choices.{ColumnTerms}
use Rattle.sql_meaning.specs.TermLists.{branch_own}
use Rattle.plan_choice.specs.Scans.{Scan, scan_of, by_appearance}

abbrev pub branch_with : Schema → Bound → ℕ → ℕ → BExpr → List ColumnTerms → Scan
branch_with schema bound item number e columns =
    scan_of (table_of (slice_get bound.items item)) (length bound.items) []
    (by_appearance (branch_own schema bound item number (flat e)) columns)

-- as far as both lists go
abbrev pub branches_with : Schema → Bound → ℕ → ℕ → BExprs → List (List ColumnTerms) → List Scan
branches_with schema bound item number Nil branches = []
branches_with schema bound item number (More e es) [] = []
branches_with schema bound item number (More e es) (columns ∷ branches) =
    branch_with schema bound item number e columns
    ∷ branches_with schema bound item number es branches

-- the members of an OR
abbrev pub any_of : BExpr → Option BExprs
any_of (Any es) = Some es
any_of e = None

abbrev pub members_at : Option Conjunct → Option BExprs
members_at None = None
members_at (Some c) = any_of c.expr
