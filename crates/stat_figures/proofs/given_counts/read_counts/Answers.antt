use Rattle.std.proofs.Common.{arith, ap, sym, ◌∙◌, Some}
use Rattle.stat_figures.specs.Words.{lent_words}
use Rattle.stat_figures.proofs.WordLists.{counts_by, too_few_lent, with_rest}
use Rattle.stat_figures.proofs.given_counts.read_counts.Goals as goal

pub returns-then-words-count : goal.returns-then-words-count
returns-then-words-count c =
    too_few_lent c.args.count c.as_slice-words.result.now _ c.if-words-count.true
    (ap lent_words c.as_slice-words.ensures.value ∙ c.in_ok-held.ensures)

pub returns-in-Some : goal.returns-in-Some
returns-in-Some c =
    sym
    (counts_by c.args.count c.as_slice-words.result.now c.split_at.result.0.now
    c.split_at.result.1.now _ c.in_ok-numbers.field-0 (omega arith)
    (ap lent_words c.as_slice-words.ensures.value ∙ c.in_ok-held.ensures) c.split_at.ensures.front
    c.split_at.ensures.back c.in_ok-numbers.ensures
    ∙ ap (with_rest (lent_words c.split_at.result.1.now)) c.in-Some.is
    ∙ ap (λ ws. with_rest (lent_words ws) (Some c.in-Some.numbers))
    (sym c.in_ok-from_slice-in-Some.ensures.items))

pub returns : goal.returns
returns c =
    sym
    (counts_by c.args.count c.as_slice-words.result.now c.split_at.result.0.now
    c.split_at.result.1.now _ c.in_ok-numbers.field-0 (omega arith)
    (ap lent_words c.as_slice-words.ensures.value ∙ c.in_ok-held.ensures) c.split_at.ensures.front
    c.split_at.ensures.back c.in_ok-numbers.ensures
    ∙ ap (with_rest (lent_words c.split_at.result.1.now)) c.in-None.is)
