use Rattle.std.proofs.Common.{◌≡◌, drop}
use Rattle.sql_meaning.specs.OrderState.{part_held}
use Rattle.sql_value.specs.View.{plain_collation}
use Rattle.sql_bound.specs.Columns.{site_of}
use Rattle.loop_orders.specs.Walks.{plain_columns, plain_parts}
use Rattle.loop_orders.proofs.held.is_held.Given as goal

-- no part so far holds it
abbrev pub invariant-loop-number : goal.invariant-loop-number
invariant-loop-number l =
    part_held l.walk.alias (drop l.number (plain_columns l.walk))
    (drop l.number (plain_parts l.walk))
    (site_of l.column) (plain_collation l.coll)
    ≡ part_held l.walk.alias (plain_columns l.walk) (plain_parts l.walk) (site_of l.column)
    (plain_collation l.coll)
