use Rattle.std.proofs.Common.{◌∙◌, ap, subst, sym, ◌≡◌, map, not}
use Rattle.std.specs.Ordering.{eq_by_cmp}
use Rattle.std.specs.Prelude.{[], List}
use Rattle.std.specs.List.{filter}
use Rattle.list_laws.specs.Order.{Ascends, sort_by}
use Rattle.list_laws.specs.FirstComing.{keep_first}
use Rattle.list_laws.proofs.Orders.{Ascends-sort_by}
use Rattle.sql_meaning.specs.Values.{Value, is_null}
use Rattle.sql_meaning.specs.IndexLists.{column_cmp}
use Rattle.sql_meaning.proofs.Seeks.{column_cmp_total}
use Rattle.sql_value.specs.View.{plain_value}
use Rattle.path_walks.specs.Columns.{plain_sort_column}
use Rattle.path_walks.specs.Keys.{lent_values}
use Rattle.path_walks.proofs.in_keys.walked_keys.Goals as goal

pub returns : goal.returns
returns c =
    let order = column_cmp (plain_sort_column c.args.column) in
    let known = filter (λ key. not (is_null key)) (map plain_value c.args.keys.now) in
    let list : lent_values c.as_slice.result.now ≡ sort_by order known =
    ap lent_values c.as_slice.ensures.value ∙ c.in_ok-sorted.ensures
    ∙ ap (sort_by order) c.in_ok-non_null_keys.ensures in
    c.in_ok-walked.ensures
    (subst (λ (l : List Value). Ascends order l) (sym list)
    (Ascends-sort_by (column_cmp_total (plain_sort_column c.args.column)) known))
    ∙ ap (keep_first (eq_by_cmp order) []) list
