use Rattle.std.proofs.Common.{◌≡◌, drop, map}
use Rattle.sql_meaning.specs.Expressions.{bare_column}
use Rattle.sql_meaning.specs.OrderState.{drop_held, on_item}
use Rattle.sql_bound.specs.Statements.{sort_key_of}
use Rattle.loop_orders.proofs.passing.without_item.Given as goal

-- all keys so far are columns of the item
abbrev pub invariant-loop-number : goal.invariant-loop-number
invariant-loop-number l =
    drop_held (λ k. on_item l.item (bare_column k.expr)) (map sort_key_of (drop l.number l.keys))
    ≡ drop_held (λ k. on_item l.item (bare_column k.expr)) (map sort_key_of l.keys)
