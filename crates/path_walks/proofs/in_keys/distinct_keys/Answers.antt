use Rattle.std.proofs.Common.{◌∙◌, ap, subst, sym, refl, ◌≡◌, ◌∷◌, arith, drop}
use Rattle.std.specs.Ordering.{eq_by_cmp}
use Rattle.std.specs.Prelude.{[], List}
use Rattle.std.proofs.lemmas.List.{take_rest}
use Rattle.list_laws.specs.Order.{Ascends}
use Rattle.list_laws.specs.FirstComing.{keep_first, dedup_behind}
use Rattle.list_laws.proofs.Neighbors.{kept_in_order}
use Rattle.list_laws.proofs.Turns.{next_dropped}
use Rattle.sql_meaning.specs.Values.{Value}
use Rattle.sql_meaning.specs.IndexLists.{column_cmp}
use Rattle.sql_meaning.proofs.Seeks.{column_cmp_total}
use Rattle.sql_value.specs.View.{plain_value}
use Rattle.path_walks.specs.Columns.{plain_sort_column}
use Rattle.path_walks.specs.Keys.{lent_values}
use Rattle.path_walks.proofs.in_keys.distinct_keys.Goals as goal

pub returns : goal.returns
returns c = λ up.
    let order = column_cmp (plain_sort_column c.args.column) in
    let keys = c.args.keys.now in
    let first = plain_value c.first-item.result.now in
    let split : lent_values keys ≡ first ∷ lent_values (drop 1 keys) =
    ap lent_values (next_dropped keys 0 c.first-item.result (omega arith) c.first-item.is) in
    c.in_ok-kept.ensures
    ∙ ap (λ rest. first ∷ dedup_behind (eq_by_cmp order) first (lent_values rest))
    (take_rest keys 1)
    ∙ kept_in_order order (column_cmp_total (plain_sort_column c.args.column)) (eq_by_cmp order)
    (λ x y. refl) first
    (lent_values (drop 1 keys)) (subst (λ (l : List Value). Ascends order l) split up)
    ∙ ap (keep_first (eq_by_cmp order) []) (sym split)
