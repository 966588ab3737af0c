use Rattle.std.proofs.Common.{drop}
use Rattle.expert_advice.specs.Full.{with_candidates}
use Rattle.expert_advice.proofs.Additions.{IsOnTheWay}
use Rattle.expert_advice.proofs.full.full_schema.Given as goal

abbrev pub invariant-loop-candidate : goal.invariant-loop-candidate
invariant-loop-candidate l =
    IsOnTheWay (with_candidates l.schema l.candidates) l.full
    (drop l.candidate-index l.candidates)
