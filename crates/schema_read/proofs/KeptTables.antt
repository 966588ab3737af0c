-- Rows of tables, where a table is added or the rows of one change.
use Rattle.std.proofs.Common.{◌≡◌, ℕ, zero, suc, List, [], ◌∷◌, ◌++◌, set, slice_get}
use Rattle.std.proofs.Common.{slice_index_or, Some, subst, sym}
use Rattle.std.specs.List.{AllByRecursion}
use Rattle.sql_meaning.specs.Rows.{Row}
use Rattle.schema_model.specs.HeldRows.{AreRowsOf, AreRows}
use Rattle.schema_model.specs.declared.tables.Table.{Table}

some_is : {X : Type 0} (x y : X) → Some x ≡ Some y → x ≡ y
some_is x y e = cc

pub rows_pushed : (tables : List Table) (table : Table) (more : List (List Row))
    → AreRows tables more → AreRows (tables ++ table ∷ []) (more ++ [] ∷ [])
rows_pushed [] table [] h = (record { rising = tt; held = tt }, tt)
rows_pushed [] table (r ∷ rs) h = absurd h
rows_pushed (t ∷ ts) table [] h = absurd h
rows_pushed (t ∷ ts) table (r ∷ rs) h = (h.0, rows_pushed ts table rs h.1)

pub rows_at : (tables : List Table) (more : List (List Row)) (number : ℕ) (table : Table)
    → slice_get tables number ≡ Some table → AreRows tables more
    → AreRowsOf table (slice_index_or more number [])
rows_at [] [] number table e h = absurd (cc)
rows_at [] (r ∷ rs) number table e h = absurd h
rows_at (t ∷ ts) [] number table e h = absurd h
rows_at (t ∷ ts) (r ∷ rs) zero table e h =
    subst (λ (x : Table). AreRowsOf x r) (some_is t table e) h.0
rows_at (t ∷ ts) (r ∷ rs) (suc number) table e h = rows_at ts rs number table e h.1

pub rows_set : (tables : List Table) (more : List (List Row)) (number : ℕ) (table : Table)
    (rows : List Row) → slice_get tables number ≡ Some table → AreRowsOf table rows
    → AreRows tables more
    → AreRows tables (set more number rows)
rows_set [] [] number table rows e a h = absurd (cc)
rows_set [] (r ∷ rs) number table rows e a h = absurd h
rows_set (t ∷ ts) [] number table rows e a h = absurd h
rows_set (t ∷ ts) (r ∷ rs) zero table rows e a h =
    (subst (λ (x : Table). AreRowsOf x rows) (sym (some_is t table e)) a, h.1)
rows_set (t ∷ ts) (r ∷ rs) (suc number) table rows e a h =
    (h.0, rows_set ts rs number table rows e a h.1)

pub all_at_or : {X : Type 0} (P : X → Type 0) (xs : List X) (n : ℕ) (d : X) → P d
    → AllByRecursion P xs → P (slice_index_or xs n d)
all_at_or P [] n d p h = p
all_at_or P (x ∷ xs) zero d p h = h.0
all_at_or P (x ∷ xs) (suc n) d p h = all_at_or P xs n d p h.1

pub all_set : {X : Type 0} (P : X → Type 0) (xs : List X) (n : ℕ) (y : X) → P y
    → AllByRecursion P xs → AllByRecursion P (set xs n y)
all_set P [] n y p h = tt
all_set P (x ∷ xs) zero y p h = (p, h.1)
all_set P (x ∷ xs) (suc n) y p h = (h.0, all_set P xs n y p h.1)
