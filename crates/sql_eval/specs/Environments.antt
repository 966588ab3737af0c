-- What an environment is seen as: an assignment of rows to items, and the parameters.
use Rattle.std.specs.Prelude.{◌<◌, ℕ, Option, Some, option_and_then, IsSomeAnd, IfSome, List}
use Rattle.std.specs.Prelude.{[], map, length, slice_get, slice_index_or}
use Rattle.sql_value.specs.View.{plain_value}
use Rattle.sql_meaning.specs.Values.{Value}
use Rattle.sql_meaning.specs.Rows.{Row, Assignment}
use Rattle.sql_meaning.specs.Schemas.{Database}
use Rattle.sql_meaning.specs.Expressions.{BExpr, BExprs, Lit, Param, Column, Rowid, Plus, Collate}
use Rattle.sql_meaning.specs.Expressions.{Cmp, OneOf, Like, IsNull, Not, All, Any, Nil, More}
use Rattle.schema_model.specs.PlainSchemas.{plain_database}
use Rattle.sql_eval.specs.declared.environment.Place.{Place}
use Rattle.sql_eval.specs.declared.environment.Env.{Env}

-- the row at a place, or the missing row
abbrev pub placed_row : Database → Place → Option Row
placed_row database place =
    option_and_then (λ row. slice_get (slice_index_or database place.table []) row) place.row

abbrev pub placed : Database → List Place → Assignment
placed database places = map (λ place. Some (placed_row database place)) places

abbrev pub assignment_of : Env → Assignment
assignment_of env = placed (plain_database env.tables.now) env.places.now

abbrev pub params_of : Env → List Value
params_of env = map plain_value env.params.now

-- where there is a row at the place, it stands in its table
abbrev pub IsPlace : Database → Place → Type 0
IsPlace database place =
    IsSomeAnd (slice_get database place.table) (λ rows. IfSome place.row (λ row. row < length rows))

-- where there is a row at the place, it has the column
abbrev pub HasColumn : Database → ℕ → Place → Type 0
HasColumn database column place =
    IfSome (placed_row database place) (λ row. column < length row.values)

-- each item that the expression names has a place, and its row the columns that are named
abbrev mutual
  pub HasRows : Database → List Place → BExpr → Type 0
  HasRows database places (Lit v) = Unit {0}
  HasRows database places (Param number) = Unit {0}
  HasRows database places (Column item column) =
      IsSomeAnd (slice_get places item)
      (λ place. IsPlace database place × HasColumn database column place)
  HasRows database places (Rowid item) = IsSomeAnd (slice_get places item) (IsPlace database)
  HasRows database places (Plus e) = HasRows database places e
  HasRows database places (Collate e collation) = HasRows database places e
  HasRows database places (Cmp op left right left_conversion right_conversion collation) =
      HasRows database places left × HasRows database places right
  HasRows database places (OneOf negated left entries entry_conversion collation) =
      HasRows database places left × AllHaveRows database places entries
  HasRows database places (Like negated e pattern) =
      HasRows database places e × HasRows database places pattern
  HasRows database places (IsNull negated e) = HasRows database places e
  HasRows database places (Not e) = HasRows database places e
  HasRows database places (All es) = AllHaveRows database places es
  HasRows database places (Any es) = AllHaveRows database places es

  pub AllHaveRows : Database → List Place → BExprs → Type 0
  AllHaveRows database places Nil = Unit {0}
  AllHaveRows database places (More e es) =
      HasRows database places e × AllHaveRows database places es

-- the rows that an expression needs stand at the places
abbrev pub GivesRows : Env → BExpr → Type 0
GivesRows env e = HasRows (plain_database env.tables.now) env.places.now e

abbrev pub AllGiveRows : Env → BExprs → Type 0
AllGiveRows env es = AllHaveRows (plain_database env.tables.now) env.places.now es
