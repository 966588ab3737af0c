-- A search that has come some way.
use Rattle.std.specs.Prelude.{◌≡◌, ◌≤◌, ◌++◌, List, map, length}
use Rattle.std.specs.List.{AllByRecursion}
use Rattle.sql_meaning.specs.Letters.{folded_bytes}
use Rattle.sql_meaning.specs.Schemas as plain
use Rattle.plan_choice.specs.Candidates.{candidate_limit}
use Rattle.plan_choice.specs.CandidateNames.{candidate_names}
use Rattle.schema_model.specs.PlainSchemas.{plain_index}
use Rattle.schema_model.specs.Schemas.{Schema}
use Rattle.candidate_index.specs.Beginnings.{Serves}
use Rattle.candidate_index.specs.Known.{usable_indexes, IsCandidateOf}
use Rattle.candidate_index.specs.Naming.{naming}
use Rattle.candidate_index.specs.declared.search.Search.{Search}

-- the usable indexes, and the candidates so far
abbrev pub known : Schema → Search → List plain.Index
known schema s = usable_indexes schema ++ map plain_index s.found

-- what is kept beside the candidates is theirs
pub record Finds (schema : Schema) (s : Search) : Type 0 where
  pub beginnings : Serves s.beginnings (known schema s)
  pub names : map (λ c. c.name) s.found
      ≡ candidate_names (naming schema) (map plain_index s.found)
  pub taken : s.names ≡ map (λ c. folded_bytes c.name) s.found
  pub sound : AllByRecursion (IsCandidateOf schema.tables) s.found
  pub few : length s.found ≤ candidate_limit
