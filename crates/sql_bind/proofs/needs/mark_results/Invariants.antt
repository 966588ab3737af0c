use Rattle.std.proofs.Common.{map, take}
use Rattle.std.specs.List.{list_any}
use Rattle.sql_bind.specs.Views.{results_seen}
use Rattle.sql_bind.specs.Needs.{names_column}
use Rattle.sql_bind.specs.Marks.{Marks}
use Rattle.sql_bind.proofs.needs.mark_results.Given as goal

abbrev pub invariant-loop-result : goal.invariant-loop-result
invariant-loop-result l =
    Marks
    (λ column. list_any (names_column l.item column)
    (map (λ r. r.expr) (results_seen (take l.result-index l.results))))
    l.fn.marks l.marks
