use Rattle.std.proofs.Common.{◌≡◌, ◌++◌, drop}
use Rattle.std.specs.List.{flat_map}
use Rattle.expert_report.specs.Reports.{candidate_text}
use Rattle.expert_report.proofs.report.append_each_candidate.Given as goal

-- what is left to be written
abbrev pub invariant-loop-candidate : goal.invariant-loop-candidate
invariant-loop-candidate l =
    l.text ++ flat_map candidate_text (drop l.candidate-index l.candidates)
    ≡ l.initial.text ++ flat_map candidate_text l.candidates
