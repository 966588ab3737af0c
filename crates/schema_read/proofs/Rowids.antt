-- The rowid of a row is within 64 bits.
use Rattle.std.proofs.Common.{◌≡◌, ℕ, zero, suc, ◌-◌, ℤ, pos, negsuc, ◌+ℤ◌, Bool, true, false, cond}
use Rattle.std.proofs.Common.{List, [], ◌∷◌, length, slice_get, Option, None, Some, refl, arith}
use Rattle.std.proofs.lemmas.Int.{ints}
use Rattle.std.specs.List.{AllByRecursion}
use Rattle.std.specs.Ordering.{int_eq}
use Rattle.sql_meaning.specs.Values.{Value, Null, Int, Dec, Text, Blob, IsI64, IsValue}
use Rattle.sql_meaning.specs.Rows.{Row}
use Rattle.schema_model.specs.HeldRows.{AreHeld, IsHeldRow}
use Rattle.schema_model.specs.declared.columns.Column.{Column}
use Rattle.schema_model.specs.declared.tables.Table.{Table}
use Rattle.schema_read.specs.Inserts.{rowid_of, rowid_in, given_rowid}
use Rattle.schema_read.specs.Rows.{next_rowid, after_last}
use Rattle.schema_read.proofs.Cases.{MayBe}

after_rowid : (rowid : ℤ) (b : Bool) → int_eq rowid (pos 9223372036854775807) ≡ b → IsI64 rowid
    → MayBe IsI64 (cond b None (Some (rowid +ℤ pos 1)))
after_rowid rowid true e h = tt
after_rowid (pos n) false e h = grind (arith, ints)
after_rowid (negsuc zero) false e h = omega arith
after_rowid (negsuc (suc n)) false e h = grind (arith, ints)

after_row : (table : Table) (o : Option Row) → MayBe (IsHeldRow table) o
    → MayBe IsI64 (after_last o)
after_row table None h = omega arith
after_row table (Some row) h =
    after_rowid row.rowid (int_eq row.rowid (pos 9223372036854775807)) refl h.rowid

pub all_at : {X : Type 0} (P : X → Type 0) (xs : List X) (n : ℕ) → AllByRecursion P xs
    → MayBe P (slice_get xs n)
all_at P [] n h = tt
all_at P (x ∷ xs) zero h = h.0
all_at P (x ∷ xs) (suc n) h = all_at P xs n h.1

pub next_within : (table : Table) (rows : List Row) → AllByRecursion (IsHeldRow table) rows
    → MayBe IsI64 (next_rowid rows)
next_within table rows h =
    after_row table (slice_get rows (length rows - 1))
    (all_at (IsHeldRow table) rows (length rows - 1) h)

value_at : (columns : List Column) (values : List Value) (n : ℕ) → AreHeld columns values
    → MayBe IsValue (slice_get values n)
value_at [] [] n h = tt
value_at [] (v ∷ vs) n h = absurd h
value_at (c ∷ cs) [] n h = absurd h
value_at (c ∷ cs) (v ∷ vs) zero h = h.0.bounds
value_at (c ∷ cs) (v ∷ vs) (suc n) h = value_at cs vs n h.1

given_within : (v : Value) (next : Option ℤ) → IsValue v → MayBe IsI64 next
    → MayBe IsI64 (given_rowid v next)
given_within Null next h n = n
given_within (Int rowid) next h n = h
given_within (Dec units) next h n = tt
given_within (Text bytes) next h n = tt
given_within (Blob bytes) next h n = tt

in_within : (o : Option Value) (next : Option ℤ) → MayBe IsValue o → MayBe IsI64 next
    → MayBe IsI64 (rowid_in o next)
in_within None next h n = tt
in_within (Some v) next h n = given_within v next h n

pub rowid_within : (alias : Option ℕ) (columns : List Column) (values : List Value)
    (next : Option ℤ) → AreHeld columns values → MayBe IsI64 next
    → MayBe IsI64 (rowid_of alias values next)
rowid_within None columns values next h n = n
rowid_within (Some number) columns values next h n =
    in_within (slice_get values number) next (value_at columns values number h) n
