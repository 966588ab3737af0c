use Rattle.std.proofs.Common.{◌≡◌, drop}
use Rattle.sql_meaning.specs.OrderState.{index_positions}
use Rattle.loop_orders.specs.Walks.{pass_all, passing_of, leaves, plain_columns, plain_parts}
use Rattle.loop_orders.proofs.positions.pass_along.Given as goal

-- what is left to be passed
abbrev pub invariant-loop-number : goal.invariant-loop-number
invariant-loop-number l =
    pass_all l.walk (passing_of l.left)
    (index_positions l.walk.alias (drop l.number (plain_columns l.walk))
    (drop l.number (plain_parts l.walk)))
    ≡ pass_all l.walk (leaves l.fn.passing)
    (index_positions l.walk.alias (plain_columns l.walk) (plain_parts l.walk))
