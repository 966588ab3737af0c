-- The name of each candidate is its own.
use Rattle.std.specs.Prelude.{◌≡◌, ◌<◌, ◌+◌, ◌^◌, ℕ, false, List, [], ◌∷◌, length}
use Rattle.sql_meaning.specs.Letters.{folded_bytes}
use Rattle.sql_meaning.specs.Schemas.{Index}
use Rattle.plan_choice.specs.CandidateNames.{Naming, is_taken, candidate_names}

-- none of these names is taken, by what was there or by a name before it, letters folded
abbrev pub AreFree : List (List ℕ) → List (List ℕ) → Type 0
AreFree taken [] = Unit {0}
AreFree taken (name ∷ names) =
    (is_taken taken name ≡ false) × AreFree (folded_bytes name ∷ taken) names

-- while fewer names are taken than there are sums
abbrev pub CandidateNamesAreFree : Type 0
CandidateNamesAreFree =
    (n : Naming) (indexes : List Index) → length n.taken + length indexes < 2 ^ 32
    → AreFree n.taken (candidate_names n indexes)
