use Rattle.std.proofs.Common.{◌≡◌, [], ◌<◌, ◌≤◌, ap, sym, ◌∙◌, take, arith, length, List, ℕ, Bool, subst, false}
use Rattle.std.proofs.lemmas.List.{length-map, length-replicate}
use Rattle.std.specs.List.{AllByRecursion}
use Rattle.sql_meaning.proofs.Links.{all_at}
use Rattle.sql_meaning.specs.Plans.{Loop, consumed_by}
use Rattle.bound_rows.specs.Levels.{Marks}
use Rattle.plan_form.specs.Plans.{loop_of, plan_of}
use Rattle.plan_form.proofs.Marking.{no_marks}
use Rattle.plan_form.proofs.PlanSteps.{consumed_next}
use Rattle.plan_form.proofs.ListsOfPaths.{all_taken}
use Rattle.plan_form.proofs.walks.consumed_marks.Goals as goal

pub loop-number-init : goal.loop-number-init
loop-number-init c =
    let conjuncts = c.args.plan.now.bound.now.conjuncts.now in
    record {
      counted = ap length c.in_ok-marks.ensures ∙ length-replicate (length conjuncts) false
          ∙ sym (length-map conjuncts _);
      marked = subst (λ (l : List Bool). Marks l []) (sym c.in_ok-marks.ensures)
          (no_marks (length conjuncts));
    }

pub mark_all-requires : goal.mark_all-requires
mark_all-requires c =
    let plan = plan_of c.args.plan.now in
    subst
    (λ (n : ℕ). AllByRecursion (λ number. number < n) c.loop_at.result.consumed.now)
    (sym c.loop-number.invariant.counted)
    (all_at (λ l. AllByRecursion (λ number. number < length plan.bound.conjuncts) l.consumed)
    plan.loops c.loop-number.number (loop_of c.loop_at.result) c.requires c.loop_at.ensures)

pub loop-number-preserved : goal.loop-number-preserved
loop-number-preserved c =
    let plan = plan_of c.args.plan.now in
    record {
      counted = c.mark_all.ensures.counted ∙ c.loop-number.invariant.counted;
      marked = subst (λ (l : List ℕ). Marks c.mark_all.new.marks.items l)
          (sym (consumed_next plan.loops c.loop-number.number (loop_of c.loop_at.result)
          c.loop_at.ensures))
          (c.mark_all.ensures.marked (consumed_by (take c.loop-number.number plan.loops))
          c.loop-number.invariant.marked);
    }

pub returns : goal.returns
returns c =
    let plan = plan_of c.args.plan.now in
    let past : length plan.loops ≤ c.loop-number.number =
    let e : length plan.loops ≡ length c.args.plan.now.loops.now =
    length-map c.args.plan.now.loops.now _ in
    omega (arith, e) in
    subst (λ (ls : List Loop). Marks c.loop-number.marks.items (consumed_by ls))
    (all_taken plan.loops c.loop-number.number past) c.loop-number.invariant.marked
