-- A seek by lists of keys, one for each of the first columns.
use Rattle.std.specs.Prelude.{Option, Some, None, List, [], ◌∷◌, map}
use Rattle.std.specs.List.{flat_map}
use Rattle.sql_meaning.specs.Values.{Value}
use Rattle.sql_meaning.specs.Rows as rows
use Rattle.sql_meaning.specs.IndexLists.{SortColumn}
use Rattle.sql_meaning.specs.Walks.{End, bounds_walk, key_stretch}
use Rattle.index_lists.specs.Lent.{lent_rows}
use Rattle.schema_model.specs.declared.rows.Row.{Row}
use denote.Ref.{Bor}

abbrev pub lent_lists : List (Bor (List (Bor Row))) → List (List rows.Row)
lent_lists lists = map (λ rows. lent_rows rows.now) lists

-- each key's stretch in turn, and then the bounds on the next column
abbrev pub seek_keys : List SortColumn → List (List Value) → Option End → Option End
    → List rows.Row → List rows.Row
seek_keys [] keys low high rows = rows
seek_keys (s ∷ ss) [] low high rows = bounds_walk s low high rows
seek_keys (s ∷ ss) (ks ∷ keys) low high rows =
    flat_map (λ key. seek_keys ss keys low high (key_stretch s key rows)) ks

-- bounds on the column that is left for them, if there is one
abbrev pub rows_within : Option SortColumn → Option End → Option End → List rows.Row
    → List rows.Row
rows_within None low high rows = rows
rows_within (Some s) low high rows = bounds_walk s low high rows
