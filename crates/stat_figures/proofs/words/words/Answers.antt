use Rattle.std.proofs.Common.{arith, ap, ◌∙◌, ◌++◌, [], refl}
use Rattle.std.proofs.lemmas.List.{map_push}
use Rattle.plan_choice.specs.GivenFigures as meant
use Rattle.stat_figures.specs.Words.{lent_words, behind_start}
use Rattle.stat_figures.proofs.WordLists.{behind_none, spaced, went_on}
use Rattle.stat_figures.proofs.words.words.Goals as goal
use Rattle.stat_figures.proofs.words.words.Goals.{then-byte-eq32+in_ok-push, else-byte-eq32}

pub loop-place-init : goal.loop-place-init
loop-place-init c = record {
  within = omega arith;
  told = ap (λ ls. lent_words ls ++ behind_start [] (meant.words_of c.args.text.now))
      c.new-list.ensures.items
      ∙ behind_none c.args.text.now;
}

pub loop-place-preserved : goal.loop-place-preserved
loop-place-preserved c = elim c.if-byte-eq32.branch [
  | then-byte-eq32+in_ok-push w ↦ record {
    within = omega arith;
    told = spaced c.args.text.now _ (lent_words c.loop-place.list.items)
        (lent_words c.if-byte-eq32.list.items) c.loop-place.place c.loop-place.start
        c.if-byte-eq32.start (omega arith) c.loop-place.invariant.within w.if-byte-eq32.true
        refl
        (ap (λ l. lent_words l.items) w.list-is ∙ ap lent_words w.in_ok-push.ensures.ok
        ∙ map_push (λ word. word.now) c.loop-place.list.items _) w.start-is
        c.loop-place.invariant.told;
  }
  | else-byte-eq32 w ↦ record {
    within = omega arith;
    told = went_on c.args.text.now (lent_words c.loop-place.list.items)
        (lent_words c.if-byte-eq32.list.items) c.loop-place.place c.loop-place.start
        c.if-byte-eq32.start (omega arith) c.loop-place.invariant.within w.if-byte-eq32.false
        (ap (λ l. lent_words l.items) w.list-is) w.start-is c.loop-place.invariant.told;
  }
]
