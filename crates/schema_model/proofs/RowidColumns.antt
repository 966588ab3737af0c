-- A column that is the rowid keeps its name.
use Rattle.std.proofs.Common.{◌≡◌, ℕ, zero, suc, ◌+◌, ◌≤◌, ◌<◌, not, cond, List, [], ◌∷◌, length}
use Rattle.std.proofs.Common.{set, get_or, position, refl, ap, arith}
use Rattle.std.specs.List.{position_or_len}
use Rattle.schema_model.specs.Columns.{has_column_name, rowid_column, as_rowid}
use Rattle.schema_model.specs.declared.columns.Column.{Column}

place_kept : (name : List ℕ) (columns : List Column) (n : ℕ)
    → position_or_len (has_column_name name) (as_rowid columns n)
    ≡ position_or_len (has_column_name name) columns
place_kept name [] n = refl
place_kept name (c ∷ cs) zero = refl
place_kept name (c ∷ cs) (suc n) =
    ap (λ k. cond (not (has_column_name name c)) (1 + k) 0) (place_kept name cs n)

pub length_kept : (columns : List Column) (n : ℕ) → length (as_rowid columns n) ≡ length columns
length_kept [] n = refl
length_kept (c ∷ cs) zero = refl
length_kept (c ∷ cs) (suc n) = let h = length_kept cs n in omega (arith, h)

pub found_still : (name : List ℕ) (columns : List Column) (n : ℕ)
    → position (has_column_name name) (as_rowid columns n) ≡ position (has_column_name name) columns
found_still name columns n = rw (place_kept name columns n, length_kept columns n) refl

pub set_rowid : (columns : List Column) (n : ℕ) (d : Column) → n < length columns
    → set columns n (rowid_column (get_or columns n d)) ≡ as_rowid columns n
set_rowid [] n d h = absurd (omega (arith, h))
set_rowid (c ∷ cs) zero d h = refl
set_rowid (c ∷ cs) (suc n) d h = ap (λ l. c ∷ l) (set_rowid cs n d (omega (arith, h)))

pub past_end : (columns : List Column) (n : ℕ) → length columns ≤ n → as_rowid columns n ≡ columns
past_end [] n h = refl
past_end (c ∷ cs) zero h = absurd (omega (arith, h))
past_end (c ∷ cs) (suc n) h = ap (λ l. c ∷ l) (past_end cs n (omega (arith, h)))
