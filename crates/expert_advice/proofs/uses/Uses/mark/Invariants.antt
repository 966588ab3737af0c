use Rattle.std.proofs.Common.{drop}
use Rattle.sql_meaning.specs.Statements.{has_number}
use Rattle.expert_advice.proofs.Marking.{Reaches}
use Rattle.expert_advice.proofs.uses.Uses.mark.Given as goal

abbrev pub invariant-loop-number : goal.invariant-loop-number
invariant-loop-number l =
    Reaches l.self (λ n. has_number n (drop l.number-index l.numbers)) l.initial.self
    (λ n. has_number n l.numbers)
