use Rattle.std.proofs.Common.{rules, ◌≡◌, ◌≤◌, ◌<◌, ◌+◌, ◌++◌, ◌∷◌, [], List, ℕ, false, length}
use Rattle.std.proofs.Common.{ap, sym, ◌∙◌, get_or, Bool}
use Rattle.std.proofs.Common.{append-nil, append_assoc}
use Rattle.std.proofs.lemmas.List.{get_or_default}
use Rattle.expert_advice.proofs.UseOfPlans.{set_from, set_here, clear_here, none_left, set_are_used}
use Rattle.expert_advice.proofs.uses.Uses.listed.Goals as goal
use Rattle.expert_advice.proofs.uses.Uses.listed.Goals.{then-index+in_ok-push, else-index}

pub loop-number-preserved : goal.loop-number-preserved
loop-number-preserved c =
    let flags = c.args.self.now in
    let old = c.loop-number.numbers in
    let n = c.loop-number.number in
    let inside : n < length flags = search rules in
    let here : get_or flags n false ≡ c.index.result.now =
    get_or_default flags n false c.index.result.now inside
    ∙ ap (λ (bs : List Bool). get_or bs n c.index.result.now) (sym c.self.view_is)
    ∙ sym c.index.ensures in
    elim c.if-index.branch [
      | then-index+in_ok-push w ↦
          ap (λ (ns : List ℕ). ns ++ set_from flags (n + 1)) (w.numbers-is ∙ w.in_ok-push.ensures.ok)
          ∙ append_assoc old (n ∷ []) (set_from flags (n + 1))
          ∙ ap (λ (ns : List ℕ). old ++ ns) (sym (set_here flags n inside (here ∙ w.if-index.true)))
          ∙ c.loop-number.invariant
      | else-index w ↦
          ap (λ (ns : List ℕ). ns ++ set_from flags (n + 1)) w.numbers-is
          ∙ ap (λ (ns : List ℕ). old ++ ns)
          (sym (clear_here flags n inside (here ∙ w.if-index.false)))
          ∙ c.loop-number.invariant
    ]

pub returns : goal.returns
returns c = λ own count plans s.
    let flags = c.args.self.now in
    let past : length flags ≤ c.loop-number.number = search rules in
    sym (append-nil c.loop-number.numbers)
    ∙ ap (λ (ns : List ℕ). c.loop-number.numbers ++ ns)
    (sym (none_left flags c.loop-number.number past))
    ∙ c.loop-number.invariant ∙ set_are_used flags own count plans s
