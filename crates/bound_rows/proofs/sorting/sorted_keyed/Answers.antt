use Rattle.std.proofs.Common.{rules, Bool, sym, ap, ◌∙◌, map}
use Rattle.std.specs.Ordering.{is_lt, on}
use Rattle.std.specs.Cmp.{IsTotalOrder, IsStrictWeakOrder}
use Rattle.std.proofs.lemmas.List.Sorted.{ranks_by}
use Rattle.std.proofs.lemmas.Fn.{always_returns_same}
use Rattle.std.proofs.lemmas.Cmp.{on_total}
use Rattle.list_laws.proofs.SortedViews.{sort_by-map}
use Rattle.list_laws.proofs.StableSorts.{sort_by_is_the_only}
use Rattle.sql_bound.specs.Statements.{sort_key_of}
use Rattle.bound_rows.specs.Keys.{pairs_cmp}
use Rattle.bound_rows.specs.Keyed.{pair_of}
use Rattle.bound_rows.specs.declared.sorting.Keyed.{Keyed}
use Rattle.bound_rows.proofs.Sorts.{pairs_total}
use Rattle.bound_rows.proofs.sorting.sorted_keyed.Goals as goal

pub returns : goal.returns
returns c =
    let keys = map sort_key_of c.args.keys.now in
    let order = pairs_cmp keys in
    let total : IsTotalOrder (on pair_of order) = on_total pair_of (pairs_total keys) in
    let below : Keyed → Keyed → Bool = λ a b. is_lt (on pair_of order a b) in
    let weak : IsStrictWeakOrder below = ranks_by (pairs_total keys) pair_of in
    ap (map pair_of)
    (sort_by_is_the_only total c.args.keyed.items c.sort_by.new.self.items
    (c.in_ok-sort_by.ensures.sorted below weak
    (always_returns_same _ _ _ (λ a r f k. search rules)))
    (c.in_ok-sort_by.ensures.stable below weak
    (always_returns_same _ _ _ (λ a r f k. search rules))))
    ∙ sym (sort_by-map order pair_of c.args.keyed.items)
