use Rattle.std.proofs.Common.{map, take}
use Rattle.std.specs.List.{list_any}
use Rattle.sql_bound.specs.Statements.{sort_key_of}
use Rattle.sql_bind.specs.Needs.{names_column}
use Rattle.sql_bind.specs.Marks.{Marks}
use Rattle.sql_bind.proofs.needs.mark_keys.Given as goal

abbrev pub invariant-loop-key : goal.invariant-loop-key
invariant-loop-key l =
    Marks
    (λ column. list_any (names_column l.item column)
    (map (λ k. k.expr) (map sort_key_of (take l.key-index l.keys))))
    l.fn.marks l.marks
