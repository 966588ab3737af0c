-- Which plans fit a schema: what a walk of a plan, and its text, may take for granted.
use Rattle.std.specs.Prelude.{ℕ, List}
use Rattle.std.specs.List.{AllByRecursion}
use Rattle.sql_meaning.specs.Schemas.{Schema}
use Rattle.sql_meaning.specs.Plans.{Plan}
use Rattle.sql_meaning.specs.Fitting.{path_keys}
use Rattle.sql_meaning.specs.Offers.{PlanFits}
use Rattle.sql_bound.specs.Fits.{Fits, NamesExist}

-- its statement fits; each item has one loop; each index is a usable one of the loop's table, with
-- a column for each part; keys name items of earlier loops, and columns that are there; and what
-- is consumed are conjuncts
pub record FitsSchema (schema : Schema) (plan : Plan) (needs : List (List ℕ)) : Type 0 where
  pub statement : Fits schema plan.bound needs
  pub plan_fits : PlanFits schema plan
  pub keys : AllByRecursion
      (λ l. AllByRecursion (λ k. NamesExist schema plan.bound.items k.expr)
      (path_keys schema l.path)) plan.loops
