use Rattle.std.proofs.Common.{◌≡◌, ◌∙◌, ap, sym, arith, suc, length, drop, ◌∷◌, map, take}
use Rattle.std.proofs.lemmas.List.{length-map, take_rest}
use Rattle.std.proofs.lemmas.Simd.{map-map}
use Rattle.sql_meaning.specs.IndexLists.{index_entries}
use Rattle.index_lists.specs.Lent.{lent_rows}
use Rattle.plan_choice.specs.Figures.{agree, quotient_up}
use Rattle.schema_model.specs.PlainSchemas.{plain_index_column, plain_row}
use Rattle.stat_figures.specs.Changes.{begins}
use Rattle.stat_figures.proofs.CountLists.{counts_none, counts_are}
use Rattle.list_laws.proofs.Turns.{next_dropped}
use Rattle.stat_figures.proofs.Prefixes.{as_sort_column}
use Rattle.stat_figures.proofs.counted.listed_counts.Goals as goal

pub returns-in_default : goal.returns-in_default
returns-in_default c = λ rows e.
    let columns = map plain_index_column c.args.columns.now in
    c.new.ensures
    ∙ sym
    (counts_none columns (lent_rows c.args.entries.now) rows (simp length-map (omega arith))
    (e ∙ ap (λ ss. index_entries ss rows)
    (sym (map-map as_sort_column plain_index_column c.args.columns.now))))

pub returns : goal.returns
returns c = λ rows e.
    let columns = map plain_index_column c.args.columns.now in
    let entries = c.args.entries.now in
    let distinct = c.in_ok-distinct.distinct.items in
    let split : plain_row c.first-item.result.now ∷ lent_rows (drop 1 entries)
    ≡ lent_rows entries =
    ap lent_rows (sym (next_dropped entries 0 c.first-item.result (omega arith) c.first-item.is)) in
    c.in_ok-counts.ensures
    ∙ ap (map (quotient_up (length entries))) c.as_slice.ensures.value
    ∙ ap (λ n. map (quotient_up n) distinct) (sym (length-map entries (λ row. plain_row row.now)))
    ∙ counts_are columns rows (lent_rows entries) distinct (simp length-map (omega arith))
    (e ∙ ap (λ ss. index_entries ss rows)
    (sym (map-map as_sort_column plain_index_column c.args.columns.now)))
    (c.in_ok-distinct.ensures.len ∙ ap suc (sym (length-map c.args.columns.now plain_index_column)))
    (λ k q. c.in_ok-distinct.ensures.counts k (simp length-map at q)
    ∙ ap
    (λ rest. begins (agree (take k columns)) (plain_row c.first-item.result.now ∷ lent_rows rest))
    (take_rest entries 1)
    ∙ ap (begins (agree (take k columns))) split)
