-- Names are lists of bytes, with their letters made lower where they are compared.
use Rattle.std.specs.Prelude.{◌≡◌, ℕ, false, Bool, nat_eq, List, [], ◌∷◌}
use Rattle.std.specs.List.{list_any}
use Rattle.std.specs.Cmp.Lexicographic.{pointwise}

-- the same bytes
abbrev pub is_name : List ℕ → List ℕ → Bool
is_name a b = pointwise nat_eq a b

abbrev pub has_name : List ℕ → List (List ℕ) → Bool
has_name name names = list_any (is_name name) names

-- no two are equal
abbrev pub Differ : List (List ℕ) → Type 0
Differ [] = Unit {0}
Differ (x ∷ xs) = (has_name x xs ≡ false) × Differ xs
