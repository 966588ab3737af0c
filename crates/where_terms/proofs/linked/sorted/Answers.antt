use Rattle.std.proofs.Common.{rules, Bool, sym, ap, ◌∙◌, map}
use Rattle.std.specs.Ordering.{is_lt, on}
use Rattle.std.specs.Cmp.{IsTotalOrder, IsStrictWeakOrder}
use Rattle.std.proofs.lemmas.List.Sorted.{ranks_by}
use Rattle.std.proofs.lemmas.Fn.{always_returns_same}
use Rattle.std.proofs.lemmas.Cmp.{on_total}
use Rattle.list_laws.proofs.SortedViews.{sort_by-map}
use Rattle.list_laws.proofs.StableSorts.{sort_by_is_the_only}
use Rattle.sql_meaning.specs.TermLists.{ref_cmp}
use Rattle.sql_bound.specs.Columns.{column_ref_of}
use Rattle.sql_bound.specs.declared.columns.ColumnRef.{ColumnRef}
use Rattle.where_terms.proofs.ColumnOrder.{ref_total}
use Rattle.where_terms.proofs.linked.sorted.Goals as goal

pub returns : goal.returns
returns c =
    let total : IsTotalOrder (on column_ref_of ref_cmp) = on_total column_ref_of ref_total in
    let below : ColumnRef → ColumnRef → Bool = λ a b. is_lt (on column_ref_of ref_cmp a b) in
    let weak : IsStrictWeakOrder below = ranks_by ref_total column_ref_of in
    ap (map column_ref_of)
    (sort_by_is_the_only total c.args.list.items c.sort_by.new.self.items
    (c.in_ok-sort_by.ensures.sorted below weak
    (always_returns_same _ _ _ (λ a r f k. search rules)))
    (c.in_ok-sort_by.ensures.stable below weak
    (always_returns_same _ _ _ (λ a r f k. search rules))))
    ∙ sym (sort_by-map ref_cmp column_ref_of c.args.list.items)
