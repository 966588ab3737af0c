-- Rows while they are read.
use Rattle.std.specs.Prelude.{◌-◌, ℤ, pos, ◌+ℤ◌, Bool, cond, List, [], ◌∷◌, length, map, slice_get}
use Rattle.std.specs.Prelude.{Option, None, Some}
use Rattle.std.specs.List.{list_any}
use Rattle.std.specs.Ordering.{int_cmp, is_eq, int_eq, match_ordering}
use Rattle.std.specs.Global.{Vec}
use Rattle.sql_meaning.specs.Values.{Value}
use Rattle.sql_meaning.specs.Rows.{Row}
use Rattle.sql_value.specs.View.{plain_value}
use Rattle.sql_value.specs.declared.values.Value as code

abbrev pub row_of_entry : ℤ × Vec code.Value → Row
row_of_entry e = record { rowid = e.0; values = map plain_value e.1.items }

abbrev pub has_rowid : ℤ → List Row → Bool
has_rowid rowid rows = list_any (λ row. is_eq (int_cmp rowid row.rowid)) rows

-- one more, within 64 bits
abbrev pub rowid_after : ℤ → Option ℤ
rowid_after rowid = cond (int_eq rowid (pos 9223372036854775807)) None (Some (rowid +ℤ pos 1))

abbrev pub after_last : Option Row → Option ℤ
after_last None = Some (pos 1)
after_last (Some row) = rowid_after row.rowid

-- one more than the last, which is the greatest, and 1 where there is none
abbrev pub next_rowid : List Row → Option ℤ
next_rowid rows = after_last (slice_get rows (length rows - 1))

-- the row at its place among rising rowids
abbrev pub insert_row : ℤ → List Value → List Row → List Row
insert_row rowid values [] = record { rowid = rowid; values = values } ∷ []
insert_row rowid values (row ∷ rows) =
    match_ordering (int_cmp rowid row.rowid)
    (record { rowid = rowid; values = values } ∷ row ∷ rows)
    (record { rowid = row.rowid; values = values } ∷ rows)
    (row ∷ insert_row rowid values rows)
