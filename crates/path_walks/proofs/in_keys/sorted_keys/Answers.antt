use Rattle.std.proofs.Common.{rules, Bool, sym, ap, ◌∙◌}
use Rattle.std.specs.Ordering.{is_lt, on}
use Rattle.std.specs.Cmp.{IsTotalOrder, IsStrictWeakOrder}
use Rattle.std.proofs.lemmas.List.Sorted.{ranks_by}
use Rattle.std.proofs.lemmas.Fn.{always_returns_same}
use Rattle.std.proofs.lemmas.Cmp.{on_total}
use Rattle.sql_meaning.specs.Values as plain
use Rattle.sql_meaning.specs.IndexLists.{column_cmp}
use Rattle.sql_meaning.proofs.Seeks.{column_cmp_total}
use Rattle.sql_value.specs.View.{plain_value}
use Rattle.sql_value.specs.declared.values.Value.{Value}
use Rattle.list_laws.proofs.SortedViews.{sort_by-map}
use Rattle.list_laws.proofs.StableSorts.{sort_by_is_the_only}
use Rattle.path_walks.specs.Columns.{plain_sort_column}
use Rattle.path_walks.specs.Keys.{lent_values}
use Rattle.path_walks.proofs.in_keys.sorted_keys.Goals as goal
use denote.Ref.{Bor}

pub returns : goal.returns
returns c =
    let seen : Bor Value → plain.Value = λ value. plain_value value.now in
    let column = plain_sort_column c.args.column in
    let order = column_cmp column in
    let total : IsTotalOrder (on seen order) = on_total seen (column_cmp_total column) in
    let below : Bor Value → Bor Value → Bool = λ a b. is_lt (on seen order a b) in
    let weak : IsStrictWeakOrder below = ranks_by (column_cmp_total column) seen in
    ap lent_values
    (sort_by_is_the_only total c.args.keys.items c.sort_by.new.self.items
    (c.in_ok-sort_by.ensures.sorted below weak
    (always_returns_same _ _ _ (λ a r f k. search rules)))
    (c.in_ok-sort_by.ensures.stable below weak
    (always_returns_same _ _ _ (λ a r f k. search rules))))
    ∙ sym (sort_by-map order seen c.args.keys.items)
