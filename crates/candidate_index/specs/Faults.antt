-- Why there are no candidates.
use Rattle.std.specs.Prelude.{◌≡◌, ◌<◌, List, length}
use Rattle.sql_meaning.specs.Schemas.{Index}
use Rattle.plan_choice.specs.Candidates.{candidate_limit}
use Rattle.candidate_index.specs.declared.found.CandidateFault.{CandidateFault}
use Rattle.candidate_index.specs.declared.found.CandidateFault.TheVariants.{TooMany, Memory}

abbrev pub IsMemory : CandidateFault → Type 0
IsMemory fault = fault ≡ Memory

-- TooMany comes where there are too many
abbrev pub IsWhy : List Index → CandidateFault → Type 0
IsWhy candidates TooMany = candidate_limit < length candidates
IsWhy candidates Memory = Unit {0}
