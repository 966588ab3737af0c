use Rattle.std.proofs.Common.{◌≡◌, map, take}
use Rattle.sql_bound.specs.Expressions.{expr_of}
use Rattle.sql_bind.specs.Views.{results_seen}
use Rattle.sql_bind.proofs.parts.place_results.Given as goal

abbrev pub invariant-loop-column : goal.invariant-loop-column
invariant-loop-column l =
    map (λ e. expr_of e.now) l.members.items
    ≡ map (λ r. r.expr) (results_seen (take l.column-index l.results))
