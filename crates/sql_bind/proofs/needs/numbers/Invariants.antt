use Rattle.std.proofs.Common.{◌≡◌, false, filter}
use Rattle.std.specs.List.{range_with_len, slice_index_or}
use Rattle.sql_bind.proofs.needs.numbers.Given as goal

abbrev pub invariant-loop-number : goal.invariant-loop-number
invariant-loop-number l =
    l.list.items
    ≡ filter (λ column. slice_index_or l.marks column false) (range_with_len 0 l.number)
