use Rattle.std.proofs.Common.{ap, ◌∙◌, ◌||◌, List, ℕ}
use Rattle.sql_meaning.specs.Letters.{folded_bytes}
use Rattle.schema_model.specs.Names.{has_name}
use Rattle.schema_model.specs.Schemas.{is_taken}
use Rattle.candidate_index.proofs.TakenNames.{taken_is}
use Rattle.candidate_index.proofs.names.is_taken.Goals as goal

pub returns : goal.returns
returns c =
    let made = c.args.made.now in
    let schema = c.args.schema.now in
    c.is_known.ensures
    ∙ ap (λ (n : List ℕ). has_name n made || is_taken schema n)
    (c.as_slice.ensures ∙ c.in_ok-folded.ensures)
    ∙ taken_is schema made (folded_bytes c.args.name.now)
