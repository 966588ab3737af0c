-- What walks, positions and states are seen as.
use Rattle.std.specs.Prelude.{ℕ, Bool, false, cond, Option, None, Some, List, [], map, fold, ◌&&◌}
use Rattle.sql_value.specs.View.{plain_collation}
use Rattle.sql_meaning.specs.Rows.{Site}
use Rattle.sql_meaning.specs.Values.{Collation}
use Rattle.sql_meaning.specs.Paths.{EqPart, Path}
use Rattle.sql_meaning.specs.Schemas as plain_schemas
use Rattle.sql_meaning.specs.Statements as plain
use Rattle.sql_meaning.specs.Plans.{Loop}
use Rattle.sql_meaning.specs.Expressions.{bare_column}
use Rattle.sql_meaning.specs.Orders.{same_site, same_collation}
use Rattle.sql_meaning.specs.OrderState as meant
use Rattle.schema_model.specs.PlainSchemas.{plain_index_column}
use Rattle.sql_bound.specs.Columns.{site_of}
use Rattle.sql_bound.specs.Statements.{sort_key_of}
use Rattle.plan_form.specs.Paths.{part_of}
use Rattle.loop_orders.specs.declared.held.IndexWalk.{IndexWalk}
use Rattle.loop_orders.specs.declared.passing.Position.{Position}
use Rattle.loop_orders.specs.declared.passing.Passing.{Passing}
use Rattle.loop_orders.specs.declared.state.OrderState.{OrderState}
use Rattle.loop_orders.specs.declared.state.OrderState.TheVariants as state

abbrev pub plain_columns : IndexWalk → List plain_schemas.IndexColumn
plain_columns walk = map plain_index_column walk.columns.now

abbrev pub plain_parts : IndexWalk → List EqPart
plain_parts walk = map (λ part. part_of part.now) walk.parts.now

abbrev pub position_of : Position → meant.Position
position_of p = record {
  site = site_of p.column;
  collation = plain_collation p.coll;
  falling = p.desc;
  held = p.held;
}

abbrev pub leaves : Passing → meant.Passing
leaves p = meant.Leaves (map sort_key_of p.keys.now) p.direction

-- none where the order is lost
abbrev pub passing_of : Option Passing → meant.Passing
passing_of None = meant.Loses
passing_of (Some p) = leaves p

abbrev pub state_of : OrderState → meant.State
state_of state.Done = meant.Done
state_of state.Lost = meant.Lost
state_of (state.Open keys) = meant.Open (map sort_key_of keys.now)

-- one column of an index with its part, where both are there, holds this column
abbrev pub held_by : Option ℕ → Option plain_schemas.IndexColumn → Option EqPart → Site → Collation
    → Bool
held_by alias None part site collation = false
held_by alias (Some c) None site collation = false
held_by alias (Some c) (Some p) site collation =
    meant.is_one_key p
    && (same_site (meant.column_site alias c.column) site
    && same_collation c.collation collation)

-- the key is a column of the item that one of the parts holds with one key
abbrev pub ties_by : ℕ → Option ℕ → List plain_schemas.IndexColumn → List EqPart → plain.SortKey
    → Bool
ties_by item alias columns parts k =
    meant.test_column item (λ site. meant.part_held alias columns parts site k.collation)
    (bare_column k.expr)

abbrev pub ties_along : IndexWalk → plain.SortKey → Bool
ties_along walk = ties_by walk.item walk.alias (plain_columns walk) (plain_parts walk)

abbrev pub is_held_by : Option EqPart → Bool
is_held_by None = false
is_held_by (Some p) = meant.is_one_key p

-- the position of an index's column
abbrev pub column_position : Option ℕ → plain_schemas.IndexColumn → Bool → meant.Position
column_position alias c held = record {
  site = meant.column_site alias c.column;
  collation = c.collation;
  falling = c.falling;
  held = held;
}

-- the steps at positions, one after another
abbrev pub pass_all : IndexWalk → meant.Passing → List meant.Position → meant.Passing
pass_all walk passing positions =
    fold (meant.pass_position walk.item (ties_along walk)) passing positions

-- a seek of one rowid gives one row at most
abbrev pub rowids_pass : ℕ → EqPart → List plain.SortKey → meant.Passing
rowids_pass item part keys =
    cond (meant.is_one_key part)
    (meant.Leaves (meant.drop_held (λ k. meant.on_item item (bare_column k.expr)) keys) None)
    (meant.pass_position item (ties_by item None [] []) (meant.Leaves keys None)
    (meant.rowid_position false))

-- the order of a loop's rows depends on its item and its path alone
abbrev pub loop_by : ℕ → Path → Loop
loop_by item path = record { item = item; path = path; reverse = false; consumed = [] }
