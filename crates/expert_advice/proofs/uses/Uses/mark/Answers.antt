use Rattle.std.proofs.Common.{rules, List, ℕ, subst}
use Rattle.list_laws.proofs.Turns.{past_end}
use Rattle.sql_meaning.specs.Statements.{has_number}
use Rattle.expert_advice.proofs.Marking.{Reaches, ends}
use Rattle.expert_advice.proofs.UseOfPlans.{shows_more}
use Rattle.expert_advice.proofs.uses.Uses.mark.Goals as goal

pub returns : goal.returns
returns c =
    let numbers = c.args.numbers.now in
    shows_more c.args.self.now c.loop-number.self numbers
    (ends c.loop-number.self c.args.self.now (λ n. has_number n numbers)
    (subst (λ (ns : List ℕ). Reaches c.loop-number.self (λ n. has_number n ns) c.args.self.now
    (λ n. has_number n numbers))
    (past_end numbers c.loop-number.number-index (search rules)) c.loop-number.invariant))
