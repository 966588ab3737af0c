use Rattle.std.proofs.Common.{◌≡◌, ◌++◌, drop}
use Rattle.std.specs.List.{filter}
use Rattle.statement_scans.specs.Asked.{names_some}
use Rattle.statement_scans.proofs.joins.naming_terms.Given as goal

abbrev pub invariant-loop-term : goal.invariant-loop-term
invariant-loop-term l =
    l.list.items ++ filter names_some (drop l.term-index l.terms) ≡ filter names_some l.terms
