-- A stretch of a list: what stands between two ends.
use Rattle.std.specs.Prelude.{Bool, cond, List, [], ◌∷◌, ◌≡◌, true}
use Rattle.std.specs.List.{AllByRecursion}

-- the list from its first member on that is not before
abbrev pub drop_while : {X : Type 0} → (X → Bool) → List X → List X
drop_while before [] = []
drop_while before (x ∷ xs) = cond (before x) (drop_while before xs) (x ∷ xs)

-- the members up to the first that is past
abbrev pub take_until : {X : Type 0} → (X → Bool) → List X → List X
take_until past [] = []
take_until past (x ∷ xs) = cond (past x) [] (x ∷ take_until past xs)

-- skips what stands before, and takes until one is past
abbrev pub stretch : {X : Type 0} → (X → Bool) → (X → Bool) → List X → List X
stretch before past xs = take_until past (drop_while before xs)

-- once a member passes, all later ones do: so a test meets a list in order
abbrev pub Rises : {X : Type 0} → (X → Bool) → List X → Type 0
Rises p [] = Unit {0}
Rises p (x ∷ xs) = (p x ≡ true → AllByRecursion (λ y. p y ≡ true) xs) × Rises p xs
