-- What an expression is bound to, and the checks on its names (datatype3, 4; lang_expr).
use Rattle.std.specs.Prelude.{ℕ, Bool, true, false, Option, None, List, [], ◌∷◌, ◌++◌, map}
use Rattle.sql_meaning.specs.Conversions.{side_conversion}
use Rattle.sql_meaning.specs.Values.{Affinity}
use Rattle.sql_meaning.specs.Items.{expr_affinity}
use Rattle.sql_meaning.specs.Expressions as plain
use Rattle.sql_meaning.specs.Expressions.{BExpr, BExprs, IsAtLeast, IsAtMost, Nil, More}
use Rattle.sql_tree.specs.Trees.{Tree, Trees, Lit, Param, Name, Plus, Collate, Cmp, Between, OneOf}
use Rattle.sql_tree.specs.Trees.{Like, IsNull, Not, All, Any, end, more, trees, tree_of}
use Rattle.sql_tree.specs.declared.expression.Exprs.{Exprs}
use Rattle.schema_model.specs.PlainSchemas.{plain_schema}
use Rattle.sql_bound.specs.Expressions.{plain_op}
use Rattle.sql_names.specs.Scopes.{Scope}
use Rattle.sql_names.specs.Names.{name_expr, name_check}
use Rattle.sql_names.specs.Collating.{compared_under, collation_of, collation_or, collation_check}
use Rattle.sql_names.specs.declared.faults.BindFault.{BindFault}

abbrev pub affinity : Scope → BExpr → Option Affinity
affinity scope e = expr_affinity (plain_schema scope.schema) scope.items e

-- a comparison, with the conversions and the collation that its sides ask for
abbrev pub compared : Scope → plain.Op → BExpr → BExpr → BExpr
compared scope op left right =
    plain.Cmp op left right
    (side_conversion (affinity scope left) (affinity scope right))
    (side_conversion (affinity scope right) (affinity scope left))
    (compared_under (plain_schema scope.schema) scope.items left right)

-- the entries are converted and never the left side, whose collation it is alone
abbrev pub one_of : Scope → Bool → BExpr → BExprs → BExpr
one_of scope negated left entries =
    plain.OneOf negated left entries
    (side_conversion None (affinity scope left))
    (collation_of (plain_schema scope.schema) scope.items left)

abbrev pub denied_if : Bool → BExpr → BExpr
denied_if false e = e
denied_if true e = plain.Not e

-- at least the lower bound and at most the upper one
abbrev pub between : Scope → Bool → BExpr → BExpr → BExpr → BExpr
between scope negated e low high =
    denied_if negated
    (plain.All
    (More (compared scope IsAtLeast e low) (More (compared scope IsAtMost e high) Nil)))

abbrev mutual
  pub bound : Scope → Tree → BExpr
  bound scope (Lit v) = plain.Lit v
  bound scope (Param number) = plain.Param number
  bound scope (Name table name) = name_expr scope table name
  bound scope (Plus x) = plain.Plus (bound scope x)
  bound scope (Collate x name) = plain.Collate (bound scope x) (collation_or name)
  bound scope (Cmp op x y) = compared scope (plain_op op) (bound scope x) (bound scope y)
  bound scope (Between negated x low high) =
      between scope negated (bound scope x) (bound scope low) (bound scope high)
  bound scope (OneOf negated x xs) = one_of scope negated (bound scope x) (all_bound scope xs)
  bound scope (Like negated x pattern) =
      plain.Like negated (bound scope x) (bound scope pattern)
  bound scope (IsNull negated x) = plain.IsNull negated (bound scope x)
  bound scope (Not x) = plain.Not (bound scope x)
  bound scope (All xs) = plain.All (all_bound scope xs)
  bound scope (Any xs) = plain.Any (all_bound scope xs)

  pub all_bound : Scope → Trees → BExprs
  all_bound scope end = Nil
  all_bound scope (more x xs) = More (bound scope x) (all_bound scope xs)

-- the checks of names and collations from left to right, an operand's before its COLLATE's, of an
-- expression that stands in the owner's ON condition
abbrev mutual
  pub expr_checks : Scope → Option ℕ → Tree → List (Option BindFault)
  expr_checks scope owner (Lit v) = []
  expr_checks scope owner (Param number) = []
  expr_checks scope owner (Name table name) = name_check scope owner table name ∷ []
  expr_checks scope owner (Plus x) = expr_checks scope owner x
  expr_checks scope owner (Collate x name) = expr_checks scope owner x ++ collation_check name ∷ []
  expr_checks scope owner (Cmp op x y) = expr_checks scope owner x ++ expr_checks scope owner y
  expr_checks scope owner (Between negated x low high) =
      expr_checks scope owner x ++ (expr_checks scope owner low ++ expr_checks scope owner high)
  expr_checks scope owner (OneOf negated x xs) =
      expr_checks scope owner x ++ all_checks scope owner xs
  expr_checks scope owner (Like negated x pattern) =
      expr_checks scope owner x ++ expr_checks scope owner pattern
  expr_checks scope owner (IsNull negated x) = expr_checks scope owner x
  expr_checks scope owner (Not x) = expr_checks scope owner x
  expr_checks scope owner (All xs) = all_checks scope owner xs
  expr_checks scope owner (Any xs) = all_checks scope owner xs

  pub all_checks : Scope → Option ℕ → Trees → List (Option BindFault)
  all_checks scope owner end = []
  all_checks scope owner (more x xs) = expr_checks scope owner x ++ all_checks scope owner xs

-- the trees of the members of a form that has a list of them
abbrev pub trees_of : Exprs → Trees
trees_of list = trees (map tree_of (map (λ member. member.now) list.members.now))
