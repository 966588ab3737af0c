-- The items that a mask has, as a list.
use Rattle.std.specs.Prelude.{ℕ, zero, suc, List, [], ◌∷◌, cond}
use Rattle.sql_bound.specs.Naming.{has_item}

-- those below a number, the greatest first
abbrev pub items_below : ℕ → ℕ → List ℕ
items_below mask zero = []
items_below mask (suc n) = cond (has_item mask n) (n ∷ items_below mask n) (items_below mask n)

-- no statement has an item beyond 63; opened by no proof unasked, since it goes through 64 bits
unfoldable pub items_in : ℕ → List ℕ
items_in mask = items_below mask 64
