-- Lists with the same members as often.
use Rattle.std.specs.Prelude.{ℕ, ◌+◌, List, [], ◌∷◌, ◌≡◌}

-- the weights of the elements, added up
abbrev pub tally : {X : Type 0} → (X → ℕ) → List X → ℕ
tally f [] = 0
tally f (x ∷ xs) = f x + tally f xs

-- each has the members of the other, as often, in some order: whatever a member weighs, both lists
-- weigh the same
pub record SameTally {X : Type 0} (xs ys : List X) : Type 0 where
  pub each : (f : X → ℕ) → tally f xs ≡ tally f ys
