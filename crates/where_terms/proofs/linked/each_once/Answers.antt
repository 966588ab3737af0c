use Rattle.std.proofs.Common.{◌∙◌, ap, subst, sym, refl, ◌≡◌, ◌∷◌, ◌<◌, arith, drop, map, [], List}
use Rattle.std.proofs.Common.{get_or}
use Rattle.std.proofs.Common.{length, None}
use Rattle.std.specs.Ordering.{eq_by_cmp}
use Rattle.std.proofs.lemmas.List.{take_rest}
use Rattle.list_laws.specs.Order.{Ascends}
use Rattle.list_laws.specs.FirstComing.{keep_first, dedup_behind}
use Rattle.list_laws.proofs.Neighbors.{kept_in_order}
use Rattle.list_laws.proofs.Turns.{dropped_or}
use Rattle.sql_meaning.specs.Expressions as plain
use Rattle.sql_meaning.specs.TermLists.{ref_cmp}
use Rattle.sql_bound.specs.Columns.{column_ref_of}
use Rattle.sql_bound.specs.declared.columns.ColumnRef.{ColumnRef}
use Rattle.where_terms.proofs.ColumnOrder.{ref_total}
use Rattle.where_terms.proofs.linked.each_once.Goals as goal

pub returns : goal.returns
returns c = λ up.
    let list = c.args.list.now in
    let other : ColumnRef = record { item = 0; column = None } in
    let first = column_ref_of (get_or list 0 other) in
    let some : 0 < length list = omega arith in
    let split : map column_ref_of list ≡ first ∷ map column_ref_of (drop 1 list) =
    ap (map column_ref_of) (dropped_or list 0 other some) in
    c.in_ok-kept.ensures
    ∙ ap (λ rest. first ∷ dedup_behind (eq_by_cmp ref_cmp) first (map column_ref_of rest))
    (take_rest list 1)
    ∙ kept_in_order ref_cmp ref_total (eq_by_cmp ref_cmp) (λ x y. refl) first
    (map column_ref_of (drop 1 list))
    (subst (λ (l : List plain.ColumnRef). Ascends ref_cmp l) split up)
    ∙ ap (keep_first (eq_by_cmp ref_cmp) []) (sym split)
