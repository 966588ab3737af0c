-- A seek by keys goes over the pieces that the keys of its first columns cut.
use Rattle.std.proofs.Common.{◌≡◌, List, [], ◌∷◌, map, refl, sym, ◌∙◌, subst}
use Rattle.std.specs.Prelude.{Option}
use Rattle.std.specs.List.{AllByRecursion, flat_map}
use Rattle.std.specs.Ordering.{on}
use Rattle.std.proofs.lemmas.List.Folds.{flat_map-map}
use Rattle.list_laws.proofs.Lists.{all_flat_map, all_map, flat_map_same}
use Rattle.list_laws.proofs.Turns.{flat_flat}
use Rattle.list_laws.proofs.Orders.{Ascends-at, Ascends-first, stretch_at}
use Rattle.sql_meaning.specs.Values.{Value}
use Rattle.sql_meaning.specs.Rows.{Row, site_value}
use Rattle.sql_meaning.specs.IndexLists.{SortColumn, column_cmp, entry_cmp}
use Rattle.sql_meaning.specs.Walks.{End, key_stretch}
use Rattle.sql_meaning.proofs.Seeks.{column_cmp_total}
use Rattle.path_walks.specs.Columns.{first_of}
use Rattle.path_walks.specs.Ordered.{AreEntries, FollowColumn, FollowNext}
use Rattle.path_walks.specs.Seeks.{rows_within, seek_keys}

-- entries follow the first of their columns
pub entries_follow : (s : SortColumn) (ss : List SortColumn) (rows : List Row)
    → AreEntries (s ∷ ss) rows → FollowColumn s rows
entries_follow s ss = Ascends-first (on (site_value s.site) (column_cmp s)) (entry_cmp ss)

-- each piece is cut by the keys of one column
pub cut_step : {H : Type 0} (plain : H → Value) (s : SortColumn) (ss : List SortColumn)
    (ks : List H) (keys : List (List Value)) (low high : Option End) (pieces : List (List Row))
    → flat_map (seek_keys ss keys low high)
    (flat_map (λ rows. map (λ key. key_stretch s (plain key) rows) ks) pieces)
    ≡ flat_map (seek_keys (s ∷ ss) (map plain ks ∷ keys) low high) pieces
cut_step plain s ss ks keys low high pieces =
    let later = seek_keys ss keys low high in
    flat_flat later (λ rows. map (λ key. key_stretch s (plain key) rows) ks) pieces
    ∙ flat_map_same _ _ pieces
    (λ rows. flat_map-map later (λ key. key_stretch s (plain key) rows) ks
    ∙ sym (flat_map-map (λ key. later (key_stretch s key rows)) plain ks))

-- the stretch of a key is in the order of the columns behind
stretch_entries : (s : SortColumn) (ss : List SortColumn) (key : Value) (rows : List Row)
    → AreEntries (s ∷ ss) rows → AreEntries ss (key_stretch s key rows)
stretch_entries s ss key rows h =
    subst (AreEntries ss)
    (sym (stretch_at (column_cmp_total s) (site_value s.site) key rows (entries_follow s ss rows h)))
    (Ascends-at (column_cmp_total s) (site_value s.site) key (entry_cmp ss) rows h)

-- and so is each piece that the keys of a column cut
pub cut_entries : {H : Type 0} (plain : H → Value) (s : SortColumn) (ss : List SortColumn)
    (ks : List H) (pieces : List (List Row))
    → AllByRecursion (AreEntries (s ∷ ss)) pieces
    → AllByRecursion (AreEntries ss)
    (flat_map (λ rows. map (λ key. key_stretch s (plain key) rows) ks) pieces)
cut_entries {H} plain s ss ks pieces h =
    all_flat_map (AreEntries ss) (λ rows. map (λ key. key_stretch s (plain key) rows) ks) pieces
    (all_map _ _ pieces (λ rows k. each ks rows k) h)
  where
    each : (keys : List H) (rows : List Row) → AreEntries (s ∷ ss) rows
        → AllByRecursion (AreEntries ss) (map (λ key. key_stretch s (plain key) rows) keys)
    each [] rows k = tt
    each (key ∷ keys) rows k = (stretch_entries s ss (plain key) rows k, each keys rows k)

pub next_follow : (ss : List SortColumn) (rows : List Row) → AreEntries ss rows
    → FollowNext (first_of ss) rows
next_follow [] rows h = tt
next_follow (s ∷ ss) rows h = entries_follow s ss rows h

-- behind the last key the bounds stand on the next column
pub within_is : (ss : List SortColumn) (low high : Option End) (rows : List Row)
    → rows_within (first_of ss) low high rows ≡ seek_keys ss [] low high rows
within_is [] low high rows = refl
within_is (s ∷ ss) low high rows = refl
