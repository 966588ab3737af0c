-- The texts of candidates.
use Rattle.std.specs.Prelude.{ℕ, ◌-◌, List, [], map, length, slice_get, slice_index_or, Option}
use Rattle.std.specs.Prelude.{Some, None}
use Rattle.sql_meaning.specs.Statements.{numbers_from}
use Rattle.plan_choice.specs.Figures.{Figures, stat_text}
use Rattle.schema_model.specs.CreateTexts.{create_text}
use Rattle.schema_model.specs.Schemas.{Schema}
use Rattle.schema_model.specs.declared.indexes.Index.{Index}
use Rattle.expert_advice.specs.declared.lines.CandidateLine.{CandidateLine}

abbrev pub create_of : Schema → Option Index → List ℕ
create_of schema None = []
create_of schema (Some index) = create_text schema index

-- of the index of a number
abbrev pub line_at : Schema → Figures → ℕ → CandidateLine
line_at schema figures number = record {
  create = create_of schema (slice_get schema.indexes number);
  stat = stat_text (slice_index_or figures.counted number []);
}

-- of those behind so many
abbrev pub candidate_lines : Schema → Figures → ℕ → List CandidateLine
candidate_lines full figures own =
    map (line_at full figures) (numbers_from own (length full.indexes - own))
