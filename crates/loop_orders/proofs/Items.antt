-- An item of FROM by its number.
use Rattle.std.proofs.Common.{◌≡◌, ◌<◌, ℕ, zero, suc, List, [], ◌∷◌, refl, arith, length, map}
use Rattle.std.specs.Prelude.{slice_get, slice_index_or}
use Rattle.std.specs.List.{AllByRecursion}
use Rattle.sql_meaning.specs.Items.{Item}
use Rattle.sql_meaning.specs.Statements.{table_of}
use Rattle.sql_bound.specs.Statements.{item_of}
use Rattle.sql_bound.specs.declared.statement.BItem.{BItem}

pub holds_at : (P : Item → Type 0) (items : List BItem) (n : ℕ) (other : BItem)
    → AllByRecursion P (map item_of items) → n < length (map item_of items)
    → P (item_of (slice_index_or items n other))
holds_at P [] n other h below = absurd (omega (arith, below))
holds_at P (i ∷ is) zero other h below = h.0
holds_at P (i ∷ is) (suc n) other h below = holds_at P is n other h.1 (omega (arith, below))

pub table_at : (items : List BItem) (n : ℕ) (other : BItem) → n < length (map item_of items)
    → (slice_index_or items n other).table ≡ table_of (slice_get (map item_of items) n)
table_at [] n other below = absurd (omega (arith, below))
table_at (i ∷ is) zero other below = refl
table_at (i ∷ is) (suc n) other below = table_at is n other (omega (arith, below))
