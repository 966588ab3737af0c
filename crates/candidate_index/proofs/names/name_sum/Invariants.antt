use Rattle.std.proofs.Common.{◌≡◌, drop}
use Rattle.plan_choice.specs.CandidateNames.{sum_from, name_sum}
use Rattle.candidate_index.proofs.names.name_sum.Given as goal

abbrev pub invariant-loop-byte : goal.invariant-loop-byte
invariant-loop-byte l = sum_from l.sum (drop l.byte-index l.text) ≡ name_sum l.text
