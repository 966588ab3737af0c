use Rattle.std.proofs.Common.{rules, subst, sym}
use Rattle.list_laws.proofs.Turns.{next_dropped, past_end}
use Rattle.schema_model.specs.Schemas.{Schema}
use Rattle.expert_advice.specs.Full.{IsFull, with_candidates}
use Rattle.expert_advice.proofs.Additions.{IsOnTheWay, begins, ends, is_full, is_index}
use Rattle.expert_advice.proofs.full.full_schema.Goals as goal

pub loop-candidate-init : goal.loop-candidate-init
loop-candidate-init c =
    let own = c.args.schema.now in
    let candidates = c.args.candidates.now in
    subst (λ (full : Schema). IsOnTheWay (with_candidates own candidates) full candidates)
    (sym c.in_ok-full.ensures) (begins own candidates c.requires.candidates c.requires.room)

pub add_index-requires-clause-sound : goal.add_index-requires-clause-sound
add_index-requires-clause-sound c =
    let whole = with_candidates c.args.schema.now c.args.candidates.now in
    let i = c.loop-candidate.candidate-index in
    let here = subst (IsOnTheWay whole c.loop-candidate.full)
    (next_dropped c.args.candidates.now i c.candidate-item.result c.loop-candidate-test.true
    c.candidate-item.is) c.loop-candidate.invariant in
    is_index c.loop-candidate.full c.candidate-item.result c.in_ok-index.index here.sound.0
    c.in_ok-index.ensures.same c.in_ok-index.ensures.few

pub returns-clause-full : goal.returns-clause-full
returns-clause-full c =
    let own = c.args.schema.now in
    let candidates = c.args.candidates.now in
    let whole = with_candidates own candidates in
    let done = subst (IsOnTheWay whole c.loop-candidate.full)
    (past_end candidates c.loop-candidate.candidate-index (search rules))
    c.loop-candidate.invariant in
    subst (IsFull own) (sym (ends whole c.loop-candidate.full done))
    (is_full own candidates c.requires.candidates)
