use Rattle.std.proofs.Common.{rules, Bool, map, sym, ap, ◌∙◌}
use Rattle.std.specs.Ordering.{is_lt, on}
use Rattle.std.specs.Cmp.{IsTotalOrder, IsStrictWeakOrder}
use Rattle.std.proofs.lemmas.List.Sorted.{ranks_by}
use Rattle.std.proofs.lemmas.Fn.{always_returns_same}
use Rattle.std.proofs.lemmas.Cmp.{on_total}
use Rattle.list_laws.proofs.SortedViews.{sort_by-map}
use Rattle.list_laws.proofs.StableSorts.{sort_by_is_the_only}
use Rattle.sql_meaning.specs.Rows as rows
use Rattle.sql_meaning.specs.IndexLists.{entry_cmp}
use Rattle.sql_meaning.proofs.Paths.{entry_cmp_total}
use Rattle.schema_model.specs.PlainSchemas.{plain_row}
use Rattle.schema_model.specs.declared.rows.Row.{Row}
use Rattle.index_lists.specs.Lent.{lent_rows}
use Rattle.index_lists.specs.SortColumns.{sort_column_of}
use Rattle.index_lists.proofs.entries.sorted_entries.Goals as goal
use denote.Ref.{Bor}

pub returns : goal.returns
returns c =
    let seen : Bor Row → rows.Row = λ row. plain_row row.now in
    let columns = map sort_column_of c.args.columns.now in
    let order = entry_cmp columns in
    let total : IsTotalOrder (on seen order) = on_total seen (entry_cmp_total columns) in
    let below : Bor Row → Bor Row → Bool = λ a b. is_lt (on seen order a b) in
    let weak : IsStrictWeakOrder below = ranks_by (entry_cmp_total columns) seen in
    ap lent_rows
    (sort_by_is_the_only total c.args.rows.items c.sort_by.new.self.items
    (c.in_ok-sort_by.ensures.sorted below weak
    (always_returns_same _ _ _ (λ a r f k. search rules)))
    (c.in_ok-sort_by.ensures.stable below weak
    (always_returns_same _ _ _ (λ a r f k. search rules))))
    ∙ sym (sort_by-map order seen c.args.rows.items)
