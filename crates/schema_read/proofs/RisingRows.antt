-- A row that is put at its place.
use Rattle.std.proofs.Common.{◌≡◌, suc, ◌≤◌, ℤ, List, [], ◌∷◌, length, refl, subst, ap, ◌∙◌, arith}
use Rattle.std.specs.List.{AllByRecursion}
use Rattle.std.specs.Cmp.{int_cmp_total}
use Rattle.std.specs.Ordering.{int_cmp, match_ordering, ordering_reverse}
use Rattle.std.specs.declared.cmp.Ordering.{Ordering}
use Rattle.std.specs.declared.cmp.Ordering.TheVariants.{Less, Equal, Greater}
use Rattle.std.proofs.lemmas.Map.Lookups.{exact_signed}
use Rattle.sql_meaning.specs.Values.{Value}
use Rattle.sql_meaning.specs.Rows.{Row}
use Rattle.sql_meaning.specs.Schemas.{RisingRows}
use Rattle.list_laws.proofs.Lists.{all_map}
use Rattle.schema_read.specs.Rows.{insert_row}

abbrev row_of : ℤ → List Value → Row
row_of rowid values = record { rowid = rowid; values = values }

abbrev Precedes : ℤ → Row → Type 0
Precedes rowid later = int_cmp rowid later.rowid ≡ Less

turned : (a b : ℤ) → int_cmp a b ≡ Greater → int_cmp b a ≡ Less
turned a b e = int_cmp_total.antisymm b a ∙ ap ordering_reverse e

placed_case : (P : Row → Type 0) (o : Ordering) (rowid : ℤ) (values : List Value) (row : Row)
    (rows placed : List Row) → int_cmp rowid row.rowid ≡ o
    → P (row_of rowid values) → P row → AllByRecursion P rows → AllByRecursion P placed
    → AllByRecursion P (match_ordering o (row_of rowid values ∷ row ∷ rows)
    (row_of row.rowid values ∷ rows) (row ∷ placed))
placed_case P Less rowid values row rows placed e n r rs ps = (n, (r, rs))
placed_case P Equal rowid values row rows placed e n r rs ps =
    (subst (λ (z : ℤ). P (row_of z values)) (exact_signed rowid row.rowid e) n, rs)
placed_case P Greater rowid values row rows placed e n r rs ps = (r, ps)

-- what holds of the new row and of the others holds of all
pub all_placed : (P : Row → Type 0) (rowid : ℤ) (values : List Value) (rows : List Row)
    → P (row_of rowid values) → AllByRecursion P rows
    → AllByRecursion P (insert_row rowid values rows)
all_placed P rowid values [] n a = (n, tt)
all_placed P rowid values (row ∷ rows) n a =
    placed_case P (int_cmp rowid row.rowid) rowid values row rows (insert_row rowid values rows)
    refl n a.0 a.1 (all_placed P rowid values rows n a.1)

rising_case : (o : Ordering) (rowid : ℤ) (values : List Value) (row : Row) (rows : List Row)
    → int_cmp rowid row.rowid ≡ o
    → RisingRows (row ∷ rows) → RisingRows (insert_row rowid values rows)
    → RisingRows (match_ordering o (row_of rowid values ∷ row ∷ rows)
    (row_of row.rowid values ∷ rows) (row ∷ insert_row rowid values rows))
rising_case Less rowid values row rows e h r =
    let further = all_map (Precedes row.rowid) (Precedes rowid) rows
    (λ later. int_cmp_total.trans rowid row.rowid later.rowid e) h.0 in
    ((e, further), h)
rising_case Equal rowid values row rows e h r = h
rising_case Greater rowid values row rows e h r =
    (all_placed (Precedes row.rowid) rowid values rows (turned rowid row.rowid e) h.0, r)

pub rising_placed : (rowid : ℤ) (values : List Value) (rows : List Row) → RisingRows rows
    → RisingRows (insert_row rowid values rows)
rising_placed rowid values [] h = (tt, tt)
rising_placed rowid values (row ∷ rows) h =
    rising_case (int_cmp rowid row.rowid) rowid values row rows refl h
    (rising_placed rowid values rows h.1)

one_more : (o : Ordering) (rowid : ℤ) (values : List Value) (row : Row) (rows placed : List Row)
    → length placed ≤ suc (length rows)
    → length (match_ordering o (row_of rowid values ∷ row ∷ rows) (row_of row.rowid values ∷ rows)
    (row ∷ placed)) ≤ suc (suc (length rows))
one_more Less rowid values row rows placed h = omega arith
one_more Equal rowid values row rows placed h = omega arith
one_more Greater rowid values row rows placed h = omega (arith, h)

pub count_placed : (rowid : ℤ) (values : List Value) (rows : List Row)
    → length (insert_row rowid values rows) ≤ suc (length rows)
count_placed rowid values [] = omega arith
count_placed rowid values (row ∷ rows) =
    one_more (int_cmp rowid row.rowid) rowid values row rows (insert_row rowid values rows)
    (count_placed rowid values rows)
