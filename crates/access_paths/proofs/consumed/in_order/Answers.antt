use Rattle.std.proofs.Common.{◌≡◌, [], ap, ◌∙◌, subst, sym, List, ℕ, nat_eq}
use Rattle.std.specs.Ordering.{nat_cmp, eq_by_cmp}
use Rattle.std.proofs.lemmas.Cmp.{nat_cmp_total}
use Rattle.std.proofs.lemmas.List.Filters.{dedup_is}
use Rattle.list_laws.specs.Order.{Ascends, sort_by}
use Rattle.list_laws.specs.FirstComing.{keep_first}
use Rattle.list_laws.proofs.Orders.{Ascends-sort_by}
use Rattle.list_laws.proofs.StableSorts.{sort_by_is_the_only}
use Rattle.access_paths.proofs.NumbersInOrder.{each_once}
use Rattle.access_paths.proofs.consumed.in_order.Goals as goal

pub returns : goal.returns
returns c =
    let numbers = c.args.numbers.items in
    let sorted : c.sort.new.self.items ≡ sort_by nat_cmp numbers =
    sort_by_is_the_only nat_cmp_total numbers c.sort.new.self.items c.in_ok-sort.ensures.sorted
    c.in_ok-sort.ensures.stable in
    dedup_is nat_eq c.sort.new.self.items c.dedup.new.self.items c.dedup.ensures.filtered
    ∙ each_once c.sort.new.self.items
    (subst (λ (l : List ℕ). Ascends nat_cmp l) (sym sorted) (Ascends-sort_by nat_cmp_total numbers))
    ∙ ap (keep_first (eq_by_cmp nat_cmp) []) sorted
