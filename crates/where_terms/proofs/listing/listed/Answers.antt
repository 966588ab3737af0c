use Rattle.std.proofs.Common.{◌≡◌, ◌≤◌, ◌<◌, ◌+◌, ◌-◌, ℕ, false, arith, sym, ◌∙◌, ap}
use Rattle.sql_meaning.specs.Statements.{has_number}
use Rattle.where_terms.specs.Views.{column_terms_of}
use Rattle.where_terms.specs.Sites.{candidates, listed_from}
use Rattle.where_terms.specs.Gathered.{gathered_from}
use Rattle.where_terms.proofs.ListedColumns.{skip, listed_turn}
use Rattle.where_terms.proofs.listing.listed.Goals as goal

pub loop-start-init : goal.loop-start-init
loop-start-init c =
    let s = c.args.from.now in
    let e = c.args.width + 1 in
    let none : (k : ℕ) → 0 ≤ k → k < c.next_from-start.result
    → has_number k (candidates s c.args.item) ≡ false =
    λ k h l. ap (has_number k) (sym (c.as_slice.ensures.value ∙ c.in_ok-numbers.ensures))
    ∙ c.next_from-start.ensures.passed k h l in
    let all : e - 0 ≡ e = omega arith in
    record {
      within = c.next_from-start.ensures.below;
      made = rw c.new-made.ensures.items
          (sym
          (ap (listed_from s c.args.item 0) (sym all)
          ∙ skip s c.args.item 0 c.next_from-start.result e (omega arith)
          c.next_from-start.ensures.below none));
    }

pub loop-start-preserved : goal.loop-start-preserved
loop-start-preserved c =
    let s = c.args.from.now in
    let none : (k : ℕ) → c.loop-start.start + 1 ≤ k → k < c.next_from-start-in-loop-start.result
    → has_number k (candidates s c.args.item) ≡ false =
    λ k h l. ap (has_number k)
    (sym (c.as_slice-in-loop-start.ensures.value ∙ c.in_ok-numbers.ensures))
    ∙ c.next_from-start-in-loop-start.ensures.passed k h l in
    record {
      within = c.next_from-start-in-loop-start.ensures.below;
      made = listed_turn s c.args.item c.loop-start.start c.next_from-start-in-loop-start.result
          (c.args.width + 1) _ _ _ (column_terms_of c.in_ok-terms.terms) c.loop-start-test.true
          c.next_from-start-in-loop-start.ensures.above
          c.next_from-start-in-loop-start.ensures.below none
          (c.in_ok-terms.ensures ∙ ap (gathered_from s) c.column_at.ensures)
          c.in_ok-push_column.ensures c.loop-start.invariant.made;
    }
