use Rattle.std.proofs.Common.{◌≡◌, ◌+◌, ◌++◌, ◌∷◌, ℕ, List, ap, ◌∙◌, map, drop, subst}
use Rattle.expert_report.specs.Planning.{EachPlanMeans, MarksPlans, told_over}
use Rattle.expert_report.specs.Readings.{piece_statements, script_statements}
use Rattle.expert_report.proofs.Marks.{marks_then, means_then}
use Rattle.expert_report.proofs.Rests.{left, made_more}
use Rattle.expert_report.proofs.planning.plan_script.Goals as goal

pub loop-piece-preserved : goal.loop-piece-preserved
loop-piece-preserved c =
    let ground = c.args.ground.now in
    let of = script_statements ground.own.now in
    let script = c.args.script.now in
    let piece = c.piece-item.result in
    let i = c.loop-piece.piece-index in
    let rest = of (drop (i + 1) script) in
    let first = piece_statements ground.own.now piece in
    let here = subst (λ (zs : List (List ℕ)). drop i zs ≡ piece ∷ drop (i + 1) zs)
    c.as_slice-piece-items.ensures
    (left c.as_slice-piece-items.result.now i piece c.loop-piece-test.true c.piece-item.is) in
    let told = told_over ground in
    record {
      told = made_more told c.loop-piece.told _ _ first rest
          (c.in_ok-plan_piece.ensures.told ∙ ap (λ (text : List ℕ).
          c.loop-piece.told ++ map told (piece_statements ground.own.now text)) c.as_slice.ensures)
          (subst (λ (zs : List (List ℕ)). c.loop-piece.told ++ map told (of zs) ≡ map told (of script))
          here c.loop-piece.invariant.told);
      means = λ h. subst (λ (zs : List (List ℕ)). EachPlanMeans ground (of zs)
          → EachPlanMeans ground (of script)) here c.loop-piece.invariant.means
          (means_then ground first rest
          (subst (λ (text : List ℕ). EachPlanMeans ground (piece_statements ground.own.now text))
          c.as_slice.ensures c.in_ok-plan_piece.ensures.means) h);
      uses = λ flags h. subst (λ (zs : List (List ℕ)). MarksPlans ground c.loop-piece.uses flags (of zs)
          → MarksPlans ground c.args.uses.now flags (of script)) here
          (c.loop-piece.invariant.uses flags)
          (marks_then ground c.loop-piece.uses c.plan_piece.new.uses flags first rest
          (subst (λ (text : List ℕ). MarksPlans ground c.loop-piece.uses c.plan_piece.new.uses
          (piece_statements ground.own.now text)) c.as_slice.ensures
          c.in_ok-plan_piece.ensures.uses) h);
    }
