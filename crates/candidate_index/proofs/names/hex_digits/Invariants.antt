use Rattle.std.proofs.Common.{◌≡◌, ◌≤◌, ◌++◌, drop, length}
use Rattle.plan_choice.specs.CandidateNames as meant
use Rattle.candidate_index.proofs.names.hex_digits.Given as goal

-- the digits from the place on are there
abbrev pub invariant-loop-place : goal.invariant-loop-place
invariant-loop-place l = record {
  within : l.place ≤ 8;
  full : length l.digits ≡ 8;
  same : meant.hex_digits l.place l.rest ++ drop l.place l.digits ≡ meant.hex_digits 8 l.sum;
}

abbrev pub decreases-loop-place : goal.decreases-loop-place
decreases-loop-place l = l.place
