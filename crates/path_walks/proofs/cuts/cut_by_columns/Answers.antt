use Rattle.std.proofs.Common.{◌≡◌, ◌+◌, arith, ap, sym, ◌∙◌, map, drop, List, ◌∷◌, subst}
use Rattle.std.specs.List.{AllByRecursion, flat_map}
use Rattle.list_laws.proofs.Lists.{all_map}
use Rattle.sql_value.specs.View.{plain_value}
use Rattle.sql_meaning.specs.IndexLists.{SortColumn}
use Rattle.sql_meaning.specs.Rows.{Row}
use Rattle.sql_meaning.specs.Walks.{key_stretch}
use Rattle.path_walks.specs.Columns.{plain_sort_column}
use Rattle.path_walks.specs.Keys.{lent_keys, lent_values}
use Rattle.path_walks.specs.Ordered.{AreEntries, FollowColumn}
use Rattle.path_walks.specs.Seeks.{lent_lists, seek_keys}
use Rattle.path_walks.proofs.Pieces.{cut_step, cut_entries, entries_follow}
use Rattle.list_laws.proofs.Turns.{dropped_get, next_dropped}
use Rattle.path_walks.proofs.cuts.cut_by_columns.Goals as goal

pub cut_by_column-requires : goal.cut_by_column-requires
cut_by_column-requires c =
    let i = c.loop-number.number in
    let columns = map plain_sort_column c.args.columns.now in
    let column = plain_sort_column c.column_at-column.result in
    let pieces = lent_lists c.loop-number.pieces.items in
    let ordered : AllByRecursion (AreEntries (column ∷ drop (i + 1) columns)) pieces =
    subst (λ (ss : List SortColumn). AllByRecursion (AreEntries ss) pieces)
    (dropped_get columns i column c.column_at-column.ensures) c.loop-number.invariant.ordered in
    subst (λ (ps : List (List Row)). AllByRecursion (FollowColumn column) ps)
    (ap lent_lists (sym c.as_slice-in-loop-number.ensures.value))
    (all_map _ _ pieces (λ rows h. entries_follow column (drop (i + 1) columns) rows h) ordered)

pub loop-number-preserved : goal.loop-number-preserved
loop-number-preserved c =
    let i = c.loop-number.number in
    let columns = map plain_sort_column c.args.columns.now in
    let column = plain_sort_column c.column_at-column.result in
    let list = c.index-keys-number.result in
    let pieces = lent_lists c.loop-number.pieces.items in
    let later = lent_keys (drop (i + 1) c.args.keys.now) in
    let cut : lent_lists c.in_ok-pieces.pieces.items
    ≡ flat_map (λ rows. map (λ key. key_stretch column (plain_value key.now) rows) list.items) pieces =
    c.in_ok-pieces.ensures
    ∙ ap
    (λ ks. flat_map (λ rows. map (λ key. key_stretch column (plain_value key.now) rows) ks)
    (lent_lists c.as_slice-in-loop-number.result.now)) c.as_slice.ensures.value
    ∙ ap
    (λ ps. flat_map
    (λ rows. map (λ key. key_stretch column (plain_value key.now) rows) list.items) (lent_lists ps))
    c.as_slice-in-loop-number.ensures.value in
    record {
      ordered = subst (λ (ps : List (List Row)). AllByRecursion (AreEntries (drop (i + 1) columns)) ps)
          (sym cut)
          (cut_entries (λ value. plain_value value.now) column (drop (i + 1) columns) list.items pieces
          (subst (λ (ss : List SortColumn). AllByRecursion (AreEntries ss) pieces)
          (dropped_get columns i column c.column_at-column.ensures)
          c.loop-number.invariant.ordered));
      pieces = λ low high.
          ap (flat_map (seek_keys (drop (i + 1) columns) later low high)) cut
          ∙ cut_step (λ value. plain_value value.now) column (drop (i + 1) columns) list.items later
          low high pieces
          ∙ ap (λ ss. flat_map (seek_keys ss (lent_values list.items ∷ later) low high) pieces)
          (sym (dropped_get columns i column c.column_at-column.ensures))
          ∙ ap (λ ks. flat_map (seek_keys (drop i columns) (lent_keys ks) low high) pieces)
          (sym (next_dropped c.args.keys.now i list (omega arith) c.index-keys-number.is))
          ∙ c.loop-number.invariant.pieces low high;
    }
