use Rattle.std.proofs.Common.{◌≡◌, ◌-◌}
use Rattle.plan_choice.specs.CandidateNames as meant
use Rattle.candidate_index.specs.Naming.{taken_with}
use Rattle.candidate_index.proofs.names.free_name.Given as goal

-- what is left to try gives the name
abbrev pub invariant-loop-tried : goal.invariant-loop-tried
invariant-loop-tried l =
    meant.free_name (meant.is_taken (taken_with l.schema l.made)) l.table (l.count - l._tried) l.sum
    ≡ meant.free_name (meant.is_taken (taken_with l.schema l.made)) l.table l.count l.first
