-- Expressions that can be evaluated wherever places fit the items.
use Rattle.std.specs.Prelude.{List, map}
use Rattle.std.specs.List.{AllByRecursion}
use Rattle.sql_meaning.specs.Items.{Item}
use Rattle.sql_meaning.specs.Expressions.{BExpr}
use Rattle.sql_meaning.specs.Schemas.{Database}
use Rattle.sql_meaning.specs.Statements.{Bound}
use Rattle.sql_bound.specs.Expressions.{expr_of}
use Rattle.sql_bound.specs.declared.expression.BExpr.{BExpr as BorrowedExpr}
use Rattle.sql_eval.specs.Environments.{HasRows}
use Rattle.sql_eval.specs.declared.environment.Place.{Place}
use Rattle.bound_rows.specs.Places.{FitPlaces}
use denote.Ref.{Bor}

-- places that fit the items have the rows and columns that the expression names
pub record IsReadable (database : Database) (items : List Item) (e : BExpr) : Type 0 where
  pub gives : (places : List Place) → FitPlaces database items places → HasRows database places e

-- expressions that are lent, as plain data
abbrev pub lent_exprs : List (Bor BorrowedExpr) → List BExpr
lent_exprs exprs = map (λ e. expr_of e.now) exprs

abbrev pub AreReadable : Database → List Item → List BExpr → Type 0
AreReadable database items exprs = AllByRecursion (IsReadable database items) exprs

-- all expressions of a statement are
pub record IsReadableBound (database : Database) (bound : Bound) : Type 0 where
  pub results : AllByRecursion (IsReadable database bound.items) bound.results
  pub conjuncts : AllByRecursion (λ c. IsReadable database bound.items c.expr) bound.conjuncts
  pub keys : AllByRecursion (λ k. IsReadable database bound.items k.expr) bound.keys
