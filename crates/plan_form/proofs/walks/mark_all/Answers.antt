use Rattle.std.proofs.Common.{◌<◌, refl, sym, ◌∙◌, arith, length, get_or, subst, ℕ}
use Rattle.std.proofs.lemmas.List.{length-set}
use Rattle.list_laws.proofs.Lists.{all_get}
use Rattle.plan_form.proofs.Marking.{marked_further}
use Rattle.plan_form.proofs.walks.mark_all.Goals as goal

pub loop-number-preserved : goal.loop-number-preserved
loop-number-preserved c = record {
  counted = length-set _ _ _ ∙ c.loop-number.invariant.counted;
  marked = λ before h.
      let i = c.loop-number.number-index in
      let numbers = c.args.numbers.now in
      let below : i < length numbers = omega arith in
      let lt : get_or numbers i 0 < length c.args.marks.now.items =
      all_get (λ n. n < length c.args.marks.now.items) numbers i 0 c.requires below in
      marked_further c.loop-number.marks.items _ before numbers i below
      (subst (λ (n : ℕ). get_or numbers i 0 < n) (sym c.loop-number.invariant.counted) lt)
      refl (c.loop-number.invariant.marked before h);
}
