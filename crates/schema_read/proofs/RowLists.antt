-- Rows as the entries of an ordered map.
use Rattle.std.proofs.Common.{◌≡◌, ◌≢◌, ℕ, zero, suc, ℤ, Bool, true, false, cond, ◌||◌, List, []}
use Rattle.std.proofs.Common.{◌∷◌, length, map, set, Option, None, Some, is_some, refl, ap, Bor}
use Rattle.std.specs.Ordering.{int_cmp, is_eq, match_ordering}
use Rattle.std.specs.declared.cmp.Ordering.{Ordering}
use Rattle.std.specs.declared.cmp.Ordering.TheVariants.{Less, Equal, Greater}
use Rattle.std.specs.BTreeMap.{insert_entry}
use Rattle.std.specs.Map.{lookup}
use Rattle.std.specs.Global.{Vec}
use Rattle.sql_meaning.specs.Rows.{Row}
use Rattle.sql_value.specs.View.{plain_value}
use Rattle.sql_value.specs.declared.values.Value.{Value}
use Rattle.sql_tokens.specs.declared.token.Token.{Token}
use Rattle.schema_model.specs.declared.columns.Column.{Column}
use Rattle.schema_text.specs.Lists.{with_first}
use Rattle.schema_read.specs.Entries.{column_value, row_values}
use Rattle.schema_read.specs.Rows.{row_of_entry, has_rowid, insert_row}

found_step : {X : Type 0} (b r : Bool) (x : X) (o : Option X) → is_some o ≡ r
    → is_some (cond b (Some x) o) ≡ (b || r)
found_step true r x o h = refl
found_step false r x o h = h

pub found : (rowid : ℤ) (es : List (ℤ × Vec Value))
    → is_some (lookup (λ k. is_eq (int_cmp rowid k)) es) ≡ has_rowid rowid (map row_of_entry es)
found rowid [] = refl
found rowid (e ∷ es) = found_step (is_eq (int_cmp rowid e.0)) _ e.1 _ (found rowid es)

put_step : (o : Ordering) (rowid : ℤ) (values : Vec Value) (e : ℤ × Vec Value)
    (es ds : List (ℤ × Vec Value)) (rows : List Row) → map row_of_entry ds ≡ rows
    → map row_of_entry (match_ordering o ((rowid, values) ∷ e ∷ es) ((e.0, values) ∷ es) (e ∷ ds))
    ≡ match_ordering o (row_of_entry (rowid, values) ∷ map row_of_entry (e ∷ es))
    (row_of_entry (e.0, values) ∷ map row_of_entry es) (row_of_entry e ∷ rows)
put_step Less rowid values e es ds rows h = refl
put_step Equal rowid values e es ds rows h = refl
put_step Greater rowid values e es ds rows h = ap (λ l. row_of_entry e ∷ l) h

pub put : (rowid : ℤ) (values : Vec Value) (es : List (ℤ × Vec Value))
    → map row_of_entry (insert_entry int_cmp es rowid values)
    ≡ insert_row rowid (map plain_value values.items) (map row_of_entry es)
put rowid values [] = refl
put rowid values (e ∷ es) = put_step (int_cmp rowid e.0) rowid values e es _ _ (put rowid values es)

none_first : {X : Type 0} (o : Option X) (r : Option (List X)) → r ≡ None → with_first o r ≡ None
none_first None r h = refl
none_first (Some x) r h = rw h refl

pub other_count : (text : List ℕ) (columns : List Column) (parts : List (Bor (List Token)))
    → length columns ≢ length parts → row_values text columns (map (λ part. part.now) parts) ≡ None
other_count text [] [] h = absurd (h refl)
other_count text [] (p ∷ ps) h = refl
other_count text (c ∷ cs) [] h = refl
other_count text (c ∷ cs) (p ∷ ps) h =
    none_first (column_value text c p.now) _ (other_count text cs ps (λ e. h (ap suc e)))

pub put_seen : (values : List Value) (n : ℕ) (v : Value)
    → map plain_value (set values n v) ≡ set (map plain_value values) n (plain_value v)
put_seen [] n v = refl
put_seen (x ∷ xs) zero v = refl
put_seen (x ∷ xs) (suc n) v = ap (λ l. plain_value x ∷ l) (put_seen xs n v)
