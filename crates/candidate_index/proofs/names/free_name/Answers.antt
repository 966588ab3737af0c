use Rattle.std.proofs.Common.{◌≡◌, ◌-◌, ◌+◌, ◌∙◌, ℕ, suc, List, ap, sym, subst, arith, IfOk}
use Rattle.plan_choice.specs.CandidateNames as meant
use Rattle.candidate_index.specs.Naming.{taken_with}
use Rattle.candidate_index.proofs.TakenNames.{this_name, next_name}
use Rattle.candidate_index.proofs.names.free_name.Goals as goal

pub loop-tried-init : goal.loop-tried-init
loop-tried-init c =
    let taken = meant.is_taken (taken_with c.args.schema.now c.args.made.now) in
    let all : c.args.count - 0 ≡ c.args.count = omega arith in
    ap (λ (k : ℕ). meant.free_name taken c.args.table.now k c.args.first) all

pub loop-tried-preserved : goal.loop-tried-preserved
loop-tried-preserved c =
    let taken = meant.is_taken (taken_with c.args.schema.now c.args.made.now) in
    let below = c.loop-tried-test.true in
    let one : c.args.count - c.loop-tried._tried ≡ suc (c.args.count - (c.loop-tried._tried + 1)) =
    omega (arith, below) in
    sym (next_name taken c.args.table.now _ _ c.loop-tried.sum one
    (ap taken (sym (c.as_slice.ensures ∙ c.in_ok-name.ensures))
    ∙ sym c.in_ok-is_taken.ensures ∙ c.if-not-branch.false))
    ∙ c.loop-tried.invariant

pub returns-then-not-branch : goal.returns-then-not-branch
returns-then-not-branch c =
    let taken = meant.is_taken (taken_with c.args.schema.now c.args.made.now) in
    let below = c.loop-tried-test.true in
    let one : c.args.count - c.loop-tried._tried ≡ suc (c.args.count - (c.loop-tried._tried + 1)) =
    omega (arith, below) in
    c.in_ok-name.ensures
    ∙ sym (this_name taken c.args.table.now _ _ c.loop-tried.sum one
    (ap taken (sym (c.as_slice.ensures ∙ c.in_ok-name.ensures))
    ∙ sym c.in_ok-is_taken.ensures ∙ c.if-not-branch.true))
    ∙ c.loop-tried.invariant

pub returns : goal.returns
returns c =
    let taken = meant.is_taken (taken_with c.args.schema.now c.args.made.now) in
    let done = c.loop-tried-test.false in
    let none : 0 ≡ c.args.count - c.loop-tried._tried = omega (arith, done) in
    subst (λ (x : List ℕ). IfOk c.name_of_sum-2.result (λ name. name ≡ x))
    (ap (λ (k : ℕ). meant.free_name taken c.args.table.now k c.loop-tried.sum) none
    ∙ c.loop-tried.invariant)
    c.name_of_sum-2.ensures
