use Rattle.std.proofs.Common.{◌≡◌, ap, sym, ◌∙◌, map, drop, length, List, [], subst}
use Rattle.std.specs.Prelude.{Option}
use Rattle.std.specs.List.{AllByRecursion, flat_map}
use Rattle.std.specs.Option.{option_map}
use Rattle.std.proofs.lemmas.List.{take_rest, drop-map}
use Rattle.list_laws.proofs.Lists.{all_map, flat_map_same}
use Rattle.sql_meaning.specs.IndexLists.{SortColumn}
use Rattle.sql_meaning.specs.Rows.{Row}
use Rattle.path_walks.specs.Columns.{plain_sort_column, first_of}
use Rattle.path_walks.specs.Ends.{plain_end}
use Rattle.path_walks.specs.Ordered.{FollowNext}
use Rattle.path_walks.specs.Seeks.{seek_keys, rows_within, lent_lists}
use Rattle.path_walks.proofs.Pieces.{next_follow, within_is}
use Rattle.path_walks.proofs.seeks.seek_by_keys.Goals as goal

pub join_within-requires : goal.join_within-requires
join_within-requires c =
    let n = length c.args.keys.now in
    let columns = c.args.columns.now in
    let rest = drop n (map plain_sort_column columns) in
    let pieces = lent_lists c.in_ok-pieces.pieces.items in
    let next : option_map plain_sort_column c.first_column-next.result ≡ first_of rest =
    c.first_column-next.ensures
    ∙ ap (λ ss. first_of (map plain_sort_column ss)) (take_rest columns n)
    ∙ ap first_of (sym (drop-map plain_sort_column n columns)) in
    subst (λ (ps : List (List Row)). AllByRecursion (FollowNext (option_map plain_sort_column c.first_column-next.result)) ps)
    (ap lent_lists (sym c.as_slice.ensures.value))
    (subst (λ (s : Option SortColumn). AllByRecursion (FollowNext s) pieces) (sym next)
    (all_map _ _ pieces (λ rows h. next_follow rest rows h) c.in_ok-pieces.ensures.ordered))

pub returns : goal.returns
returns c =
    let n = length c.args.keys.now in
    let low = plain_end c.args.low in
    let high = plain_end c.args.high in
    let columns = c.args.columns.now in
    let rest = drop n (map plain_sort_column columns) in
    let next : option_map plain_sort_column c.first_column-next.result ≡ first_of rest =
    c.first_column-next.ensures
    ∙ ap (λ ss. first_of (map plain_sort_column ss)) (take_rest columns n)
    ∙ ap first_of (sym (drop-map plain_sort_column n columns)) in
    c.in_ok-list.ensures
    ∙ ap (λ s. flat_map (rows_within s low high) (lent_lists c.as_slice.result.now)) next
    ∙ ap (λ ps. flat_map (rows_within (first_of rest) low high) (lent_lists ps))
    c.as_slice.ensures.value
    ∙ flat_map_same _ (seek_keys rest [] low high) (lent_lists c.in_ok-pieces.pieces.items)
    (within_is rest low high)
    ∙ c.in_ok-pieces.ensures.pieces low high
