use Rattle.std.proofs.Common.{map, take}
use Rattle.std.specs.List.{list_any}
use Rattle.sql_bound.specs.Statements.{conjunct_of}
use Rattle.sql_bind.specs.Needs.{names_column}
use Rattle.sql_bind.specs.Marks.{Marks}
use Rattle.sql_bind.proofs.needs.mark_terms.Given as goal

abbrev pub invariant-loop-term : goal.invariant-loop-term
invariant-loop-term l =
    Marks
    (λ column. list_any (names_column l.item column)
    (map (λ t. t.expr) (map conjunct_of (take l.term-index l.terms))))
    l.fn.marks l.marks
