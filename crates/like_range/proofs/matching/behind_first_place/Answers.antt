use Rattle.std.proofs.Common.{sym, ◌∙◌}
use Rattle.like_range.proofs.Places.{first_place_serves, whole_text_serves}
use Rattle.like_range.proofs.matching.behind_first_place.Goals as goal
use Rattle.like_range.proofs.matching.behind_first_place.Goals.{then-not-is_empty-via-then-not-is_empty, then-not-is_empty-via-else-not-is_empty+then-is_empty}

pub returns-then-not-is_empty-clause-same : goal.returns-then-not-is_empty-clause-same
returns-then-not-is_empty-clause-same c =
    elim c.then-not-is_empty.branch [
      | then-not-is_empty-via-then-not-is_empty w ↦
          c.loop-rest.invariant ∙ first_place_serves c.loop-rest.from.now c.args.pattern.now
          c.in-Some.rest.text.now c.in-Some.rest.pattern.now c.in-Some.ensures.left
          c.in-Some.ensures.percent (sym c.is_empty.ensures ∙ w.if-not-is_empty.true)
      | then-not-is_empty-via-else-not-is_empty+then-is_empty w ↦
          c.loop-rest.invariant ∙ whole_text_serves c.loop-rest.from.now c.args.pattern.now
          c.in-Some.rest.text.now c.in-Some.rest.pattern.now c.in-Some.ensures.left
          (sym c.is_empty.ensures ∙ w.if-not-is_empty.false)
          (sym w.is_empty-else-not-is_empty.ensures ∙ w.if-is_empty.true)
    ]
