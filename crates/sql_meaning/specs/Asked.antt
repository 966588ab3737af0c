-- What a statement asks of an answer, and that a plan means its statement.
use Rattle.std.specs.Prelude.{cond, List, map}
use Rattle.std.specs.List.Sorted.{IsPermutation}
use Rattle.std.specs.List.{AllByRecursion}
use Rattle.list_laws.specs.Order.{sort_by, Ascends}
use Rattle.sql_meaning.specs.Values.{Value, IsValue}
use Rattle.sql_meaning.specs.Rows.{Assignment}
use Rattle.sql_meaning.specs.Schemas.{Schema, IsDatabaseOf, Database}
use Rattle.sql_meaning.specs.Plans.{Plan, plan_walks}
use Rattle.sql_meaning.specs.Orders.{by_keys}
use Rattle.sql_meaning.specs.Statements.{Bound, statement_rows, cut, image}

-- the plan's rows before OFFSET and LIMIT: those of its loops, sorted by the keys where it sorts
abbrev pub uncut : Schema → Database → Plan → List Value → List Assignment
uncut schema database plan params =
    cond plan.sort
    (sort_by (by_keys params plan.bound.keys) (plan_walks schema database plan params))
    (plan_walks schema database plan params)

-- the rows of the statement, each as often, and none after one that ORDER BY puts behind it
pub record IsAsked (bound : Bound) (database : Database) (params : List Value)
    (list : List Assignment) : Type 0
  where
    pub permutes : IsPermutation list (statement_rows bound database params)
    pub ordered : Ascends (by_keys params bound.keys) list

-- what the plan answers
abbrev pub answer : Schema → Database → Plan → List Value → List (List Value)
answer schema database plan params =
    map (image plan.bound params) (cut plan.bound params (uncut schema database plan params))

-- on every database of the schema and for all parameters the plan gives what its statement asks
unfoldable pub Means : Schema → Plan → Type 0
Means schema plan =
    (database : Database) → IsDatabaseOf schema database → (params : List Value)
    → AllByRecursion IsValue params
    → IsAsked plan.bound database params (uncut schema database plan params)
