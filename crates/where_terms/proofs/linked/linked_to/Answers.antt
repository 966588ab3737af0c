use Rattle.std.proofs.Common.{◌≡◌, [], ap, ◌∙◌, map, not, subst, sym, List}
use Rattle.std.specs.List.{filter}
use Rattle.std.specs.Ordering.{eq_by_cmp}
use Rattle.list_laws.specs.FirstComing.{keep_first}
use Rattle.list_laws.specs.Order.{Ascends, sort_by}
use Rattle.list_laws.proofs.Orders.{Ascends-sort_by}
use Rattle.sql_meaning.specs.Expressions.{ColumnRef}
use Rattle.sql_meaning.specs.TermLists.{ref_cmp, same_ref}
use Rattle.sql_bound.specs.Columns.{column_ref_of}
use Rattle.where_terms.proofs.ColumnOrder.{ref_total}
use Rattle.where_terms.proofs.linked.linked_to.Goals as goal

pub returns : goal.returns
returns c =
    let listed : map column_ref_of c.as_slice-2.result.now
    ≡ sort_by ref_cmp (map column_ref_of c.in_ok-others.others.items) =
    ap (map column_ref_of) c.as_slice-2.ensures.value ∙ c.in_ok-list.ensures in
    c.in_ok-linked.ensures
    (subst (λ (l : List ColumnRef). Ascends ref_cmp l) (sym listed)
    (Ascends-sort_by ref_total (map column_ref_of c.in_ok-others.others.items)))
    ∙ ap (keep_first (eq_by_cmp ref_cmp) []) listed
    ∙ ap (λ ds. keep_first (eq_by_cmp ref_cmp) [] (sort_by ref_cmp ds))
    (c.in_ok-others.ensures
    ∙ ap (filter (λ d. not (same_ref d (column_ref_of c.args.c))))
    (ap (map column_ref_of) c.as_slice.ensures.value ∙ c.in_ok-found.ensures))
