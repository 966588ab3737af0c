use Rattle.std.proofs.Common.{ap, ◌∙◌, ◌++◌, List, ℕ, append_assoc}
use Rattle.std.specs.Prelude.{codes}
use Rattle.candidate_index.proofs.names.name_of_sum.Goals as goal

pub returns : goal.returns
returns c =
    c.in_ok-append-2.ensures.ok
    ∙ ap (λ (x : List ℕ). x ++ c.hex_digits.result) (c.in_ok-append.ensures.ok
    ∙ ap (λ (x : List ℕ). x ++ codes "_idx_") c.in_ok-name.ensures)
    ∙ append_assoc c.args.table.now (codes "_idx_") c.hex_digits.result
    ∙ ap (λ (x : List ℕ). c.args.table.now ++ (codes "_idx_" ++ x)) c.hex_digits.ensures
