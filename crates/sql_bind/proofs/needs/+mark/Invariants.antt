use Rattle.std.proofs.Common.{take}
use Rattle.sql_bound.proofs.Members.{plain_members}
use Rattle.sql_bind.specs.Needs.{some_names_column}
use Rattle.sql_bind.specs.Marks.{Marks}
use Rattle.sql_bind.proofs.needs.+mark.Given as goal

abbrev pub invariant-mark_all-loop-member : goal.invariant-mark_all-loop-member
invariant-mark_all-loop-member l =
    Marks
    (λ column. some_names_column l.item column (plain_members (take l.member-index l.member-items)))
    l.fn.marks l.marks
