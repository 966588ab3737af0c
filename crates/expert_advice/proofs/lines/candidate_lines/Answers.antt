use Rattle.std.proofs.Common.{rules, ◌<◌, ◌+◌, ◌-◌, ◌++◌, [], ◌∷◌, ℕ, List, length, map, ap, sym, ◌∙◌}
use Rattle.std.proofs.Common.{append_assoc}
use Rattle.sql_meaning.specs.Statements.{numbers_from}
use Rattle.expert_advice.specs.Lines.{line_at}
use Rattle.expert_advice.specs.declared.lines.CandidateLine.{CandidateLine}
use Rattle.expert_advice.proofs.Numbers.{numbers_next}
use Rattle.expert_advice.proofs.lines.candidate_lines.Goals as goal

pub loop-number-preserved : goal.loop-number-preserved
loop-number-preserved c =
    let n = c.loop-number.number in
    let old = c.loop-number.lines in
    let line = line_at c.args.full.now c.args.figures.now in
    let count = length c.args.full.now.indexes in
    let rest = map line (numbers_from (n + 1) (count - (n + 1))) in
    let below : n < count = search rules in
    ap (λ (ls : List CandidateLine). ls ++ rest) c.in_ok-push.ensures.ok
    ∙ append_assoc old (c.in_ok-line_of.field-0 ∷ []) rest
    ∙ ap (λ (l : CandidateLine). old ++ (l ∷ rest)) c.in_ok-line_of.ensures
    ∙ ap (λ (ns : List ℕ). old ++ map line ns) (sym (numbers_next n count below))
    ∙ c.loop-number.invariant
