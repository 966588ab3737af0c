use Rattle.std.proofs.Common.{ap, sym, ◌∙◌, map}
use Rattle.index_lists.specs.Lent.{lent_rows}
use Rattle.path_walks.specs.Columns.{plain_sort_column}
use Rattle.path_walks.specs.Ends.{plain_end}
use Rattle.path_walks.specs.Seeks.{seek_keys}
use Rattle.path_walks.specs.Keys.{lent_keys}
use Rattle.path_walks.specs.Parts.{plain_part}
use Rattle.path_walks.proofs.PartKeys.{seek_is_by_keys}
use Rattle.path_walks.proofs.seeks.seek.Goals as goal

pub returns : goal.returns
returns c =
    let ss = map plain_sort_column c.args.columns.now in
    let low = plain_end c.args.low in
    let high = plain_end c.args.high in
    let rows = lent_rows c.args.rows.now in
    c.in_ok-list.ensures
    ∙ ap (λ keys. seek_keys ss (lent_keys keys) low high rows) c.as_slice.ensures.value
    ∙ ap (λ keys. seek_keys ss keys low high rows) c.in_ok-keys.ensures.keys
    ∙ sym (seek_is_by_keys ss (map plain_part c.args.parts.now) low high rows)
