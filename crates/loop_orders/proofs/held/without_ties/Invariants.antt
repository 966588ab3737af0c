use Rattle.std.proofs.Common.{◌≡◌, drop, map}
use Rattle.sql_meaning.specs.OrderState.{drop_held}
use Rattle.sql_bound.specs.Statements.{sort_key_of}
use Rattle.loop_orders.specs.Walks.{ties_along}
use Rattle.loop_orders.proofs.held.without_ties.Given as goal

-- all keys so far tie
abbrev pub invariant-loop-number : goal.invariant-loop-number
invariant-loop-number l =
    drop_held (ties_along l.walk) (map sort_key_of (drop l.number l.keys))
    ≡ drop_held (ties_along l.walk) (map sort_key_of l.keys)
