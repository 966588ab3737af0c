-- The columns that a statement needs of each item: those that it names, and for UPDATE and DELETE
-- all. The alias of the rowid is none of them, since the rowid stands for it.
use Rattle.std.specs.Prelude.{ℕ, Bool, false, ◌==◌, ◌&&◌, ◌||◌, not, if◌then◌else◌}
use Rattle.std.specs.Prelude.{List, ◌++◌, map, length, filter}
use Rattle.std.specs.List.{range_with_len, list_any}
use Rattle.sql_meaning.specs.Expressions.{BExpr, BExprs, Lit, Param, Column, Rowid, Plus, Collate}
use Rattle.sql_meaning.specs.Expressions.{Cmp, OneOf, Like, IsNull, Not, All, Any, Nil, More}
use Rattle.sql_meaning.specs.Statements.{Bound, exprs_of}
use Rattle.sql_names.specs.Scopes.{Scope}
use Rattle.sql_meaning.specs.OrderState.{is_alias}
use Rattle.sql_bind.specs.Results.{width_at, alias_at}

-- whether an expression names a column of an item
abbrev mutual
  pub names_column : ℕ → ℕ → BExpr → Bool
  names_column item column (Lit v) = false
  names_column item column (Param number) = false
  names_column item column (Column i c) = (i == item) && (c == column)
  names_column item column (Rowid i) = false
  names_column item column (Plus e) = names_column item column e
  names_column item column (Collate e collation) = names_column item column e
  names_column item column (Cmp op l r lc rc collation) =
      names_column item column l || names_column item column r
  names_column item column (OneOf negated l es ec collation) =
      names_column item column l || some_names_column item column es
  names_column item column (Like negated e pattern) =
      names_column item column e || names_column item column pattern
  names_column item column (IsNull negated e) = names_column item column e
  names_column item column (Not e) = names_column item column e
  names_column item column (All es) = some_names_column item column es
  names_column item column (Any es) = some_names_column item column es

  pub some_names_column : ℕ → ℕ → BExprs → Bool
  some_names_column item column Nil = false
  some_names_column item column (More e es) =
      names_column item column e || some_names_column item column es

-- the expressions that stay in a bound statement
abbrev pub exprs_in : Bound → List BExpr
exprs_in bound = bound.results ++ (exprs_of bound.conjuncts ++ map (λ key. key.expr) bound.keys)

abbrev pub columns_named : Scope → List BExpr → ℕ → List ℕ
columns_named scope exprs item =
    filter (λ column. list_any (names_column item column) exprs)
    (range_with_len 0 (width_at scope item))

abbrev pub columns_kept : Scope → ℕ → List ℕ
columns_kept scope item =
    filter (λ column. not (is_alias (alias_at scope item) column))
    (range_with_len 0 (width_at scope item))

abbrev pub needed_of : Scope → Bool → List BExpr → ℕ → List ℕ
needed_of scope rowids exprs item =
    if rowids then columns_kept scope item else columns_named scope exprs item

-- of each item, its column numbers rising
abbrev pub needs_in : Scope → Bound → List (List ℕ)
needs_in scope bound =
    map (needed_of scope bound.rowids (exprs_in bound)) (range_with_len 0 (length scope.items))
