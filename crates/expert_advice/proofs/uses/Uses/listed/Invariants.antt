use Rattle.std.proofs.Common.{◌≡◌, ◌++◌}
use Rattle.expert_advice.proofs.UseOfPlans.{set_from}
use Rattle.expert_advice.proofs.uses.Uses.listed.Given as goal

abbrev pub invariant-loop-number : goal.invariant-loop-number
invariant-loop-number l = l.numbers ++ set_from l.self l.number ≡ set_from l.self 0
