use Rattle.std.proofs.Common.{◌≡◌, map}
use Rattle.std.specs.List.{range_with_len}
use Rattle.sql_bind.specs.Needs.{needed_of}
use Rattle.sql_bind.specs.Parts.{exprs_of_parts}
use Rattle.sql_bind.proofs.needs.bind_needs.Given as goal

abbrev pub invariant-loop-item : goal.invariant-loop-item
invariant-loop-item l =
    map (λ columns. columns.now) l.needs.items
    ≡ map (needed_of l.scope l.rowids (exprs_of_parts l.parts)) (range_with_len 0 l.item)
