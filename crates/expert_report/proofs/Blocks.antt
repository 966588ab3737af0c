-- The blocks of a report, one after another.
use Rattle.std.proofs.Common.{◌≡◌, ◌<◌, ◌+◌, ◌++◌, ℕ, zero, suc, Bool, List, [], ◌∷◌, refl, sym, ap}
use Rattle.std.proofs.Common.{◌∙◌, append_assoc, arith, length, drop}
use Rattle.std.proofs.Math.ListN.{get_or}
use Rattle.expert_advice.specs.declared.lines.CandidateLine.{CandidateLine}
use Rattle.expert_report.specs.Reports.{block, blocks}
use Rattle.expert_report.specs.declared.outcomes.StatementReport.{StatementReport}

module _ (verbose : Bool) (candidates : List CandidateLine) where
  blocks_from : (items : List StatementReport) (i number : ℕ) (x : StatementReport)
      → i < length items → x ≡ get_or items i x
      → blocks verbose candidates number (drop i items)
      ≡ block verbose candidates number x
      ++ blocks verbose candidates (number + 1) (drop (i + 1) items)
  blocks_from [] i number x below is = absurd (omega (arith, below))
  blocks_from (y ∷ ys) zero number x below is = rw is refl
  blocks_from (y ∷ ys) (suc i) number x below is =
      let next : suc i + 1 ≡ suc (i + 1) = omega arith in
      rw next (blocks_from ys i number x (omega (arith, below)) is)

  -- a block is written, and what was left to be written is one block less
  pub next_block : (old new whole : List ℕ) (items : List StatementReport) (i number : ℕ)
      (x : StatementReport) → i < length items → x ≡ get_or items i x
      → new ≡ old ++ block verbose candidates number x
      → old ++ blocks verbose candidates number (drop i items) ≡ whole
      → new ++ blocks verbose candidates (number + 1) (drop (i + 1) items) ≡ whole
  next_block old new whole items i number x below is written left =
      ap (λ text. text ++ blocks verbose candidates (number + 1) (drop (i + 1) items)) written
      ∙ append_assoc old (block verbose candidates number x) _
      ∙ ap (λ rest. old ++ rest) (sym (blocks_from items i number x below is)) ∙ left
