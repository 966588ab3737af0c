-- Why there is no report.
use Rattle.std.specs.Prelude.{◌≡◌, Option, None}
use Rattle.candidate_index.specs.declared.found.CandidateFault.{CandidateFault}
use Rattle.candidate_index.specs.declared.found.CandidateFault.TheVariants as candidates
use Rattle.expert_report.specs.declared.advice.AdviseFault.{AdviseFault}
use Rattle.expert_report.specs.declared.advice.AdviseFault.TheVariants.{TooManyCandidates, Memory}
use Rattle.expert_report.specs.declared.outcomes.Report.{Report}

abbrev pub IsMemory : AdviseFault → Type 0
IsMemory fault = fault ≡ Memory

abbrev pub of_candidates : CandidateFault → AdviseFault
of_candidates candidates.TooMany = TooManyCandidates
of_candidates candidates.Memory = Memory

-- TooManyCandidates comes where there is no report on a script
abbrev pub IsWhy : Option Report → AdviseFault → Type 0
IsWhy report TooManyCandidates = report ≡ None
IsWhy report Memory = Unit {0}
