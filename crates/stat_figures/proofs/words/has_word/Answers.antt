use Rattle.std.proofs.Common.{arith, ap, sym, ◌∙◌, ◌||◌, ◌+◌, drop, []}
use Rattle.plan_choice.specs.GivenFigures as meant
use Rattle.stat_figures.specs.Words.{lent_words}
use Rattle.stat_figures.proofs.WordLists.{has_next}
use Rattle.stat_figures.proofs.words.has_word.Goals as goal

pub returns-then-eq : goal.returns-then-eq
returns-then-eq c =
    let i = c.loop-held.held-index in
    let rest = meant.has_word c.args.word.now (lent_words (drop (i + 1) c.args.words.now)) in
    sym
    (sym c.loop-held.invariant
    ∙ has_next c.args.word.now c.args.words.now i (record { ref_ptr = (0, 0); now = [] })
    (omega arith)
    ∙ ap (λ b. b || rest) (sym c.eq.ensures ∙ c.if-eq.true))

pub loop-held-preserved : goal.loop-held-preserved
loop-held-preserved c =
    let i = c.loop-held.held-index in
    let rest = meant.has_word c.args.word.now (lent_words (drop (i + 1) c.args.words.now)) in
    sym
    (has_next c.args.word.now c.args.words.now i (record { ref_ptr = (0, 0); now = [] })
    (omega arith)
    ∙ ap (λ b. b || rest) (sym c.eq.ensures ∙ c.if-eq.false))
    ∙ c.loop-held.invariant
