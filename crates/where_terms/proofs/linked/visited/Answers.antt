use Rattle.std.proofs.Common.{◌≡◌, ◌++◌, ◌+◌, ◌-◌, [], ap, ap₂, ◌∙◌, length, map, not, rules}
use Rattle.std.proofs.Common.{reverse}
use Rattle.std.proofs.Common.{◌∷◌}
use Rattle.std.specs.List.{filter}
use Rattle.sql_meaning.specs.TermLists.{touches, other_end}
use Rattle.sql_bound.specs.Columns.{column_ref_of}
use Rattle.where_terms.specs.Views.{link_of}
use Rattle.where_terms.proofs.Steps.{mapped_push}
use Rattle.where_terms.proofs.Visits.{visit_turn, visits_start, visits_end}
use Rattle.where_terms.proofs.linked.visited.Goals as goal

pub loop-turn-init : goal.loop-turn-init
loop-turn-init c = record {
  none = c.new-left.ensures.items;
  found = visits_start c.args.links.now c.reverse.new.self.items c.new-found.result.items
      c.push.new.list.items c.args.c c.new-found.ensures.items
      (c.in_ok-push.ensures.ok ∙ ap (λ cs. cs ++ c.args.c ∷ []) c.new-next.ensures.items)
      (c.reverse.ensures.items ∙ ap reverse c.in_ok-open.ensures.items);
}

pub returns-in_default : goal.returns-in_default
returns-in_default c =
    let none : c.loop-turn.next.items ≡ [] = search rules in
    visits_end (length c.args.links.now + 1 - c.loop-turn._turn)
    (map link_of c.loop-turn.open.items) (map column_ref_of c.loop-turn.next.items)
    (map column_ref_of c.loop-turn.found.items) _ (ap (map column_ref_of) none)
    c.loop-turn.invariant.found

pub loop-turn-preserved : goal.loop-turn-preserved
loop-turn-preserved c =
    let d = column_ref_of c.in-Some.c in
    record {
      none = c.clear.ensures.items;
      found = visit_turn (length c.args.links.now + 1) c.loop-turn._turn d
          (map column_ref_of c.loop-turn.next.items) (map column_ref_of c.pop.new.self.items)
          (map column_ref_of c.visit.new.next.items) (map link_of c.loop-turn.open.items)
          (map link_of c.swap.new.x.items) (map column_ref_of c.loop-turn.found.items)
          (map column_ref_of c.push-in-loop-turn.new.list.items) _ c.loop-turn-test.true
          (mapped_push column_ref_of c.pop.new.self.items c.loop-turn.next.items c.in-Some.c
          c.in-Some.ensures.items)
          (c.in_ok-visit.ensures.next
          ∙ ap
          (λ ls. map column_ref_of c.pop.new.self.items
          ++ map (other_end d) (filter (touches d) (map link_of ls))) c.as_slice.ensures.value)
          (ap (λ v. map link_of v.items) c.swap.ensures.x_after
          ∙ c.in_ok-visit.ensures.left
          ∙ ap₂ (λ xs ls. map link_of xs ++ filter (λ p. not (touches d p)) (map link_of ls))
          c.loop-turn.invariant.none c.as_slice.ensures.value)
          (mapped_push column_ref_of c.loop-turn.found.items c.push-in-loop-turn.new.list.items
          c.in-Some.c c.in_ok-push-2.ensures.ok)
          c.loop-turn.invariant.found;
    }
