use Rattle.std.proofs.Common.{◌≡◌, ◌++◌, drop}
use Rattle.std.specs.List.{filter}
use Rattle.statement_scans.specs.Asked.{is_derived}
use Rattle.statement_scans.proofs.appearing.push_derived.Given as goal

abbrev pub invariant-loop-term : goal.invariant-loop-term
invariant-loop-term l =
    l.terms.items ++ filter is_derived (drop l.term-index l.list)
    ≡ l.initial.terms.items ++ filter is_derived l.list
