-- Lists in order, and the stable sort.
use Rattle.std.specs.Prelude.{◌≡◌, true, List, [], ◌∷◌, cond}
use Rattle.std.specs.List.{AllByRecursion}
use Rattle.std.specs.Ordering.{is_le}
use Rattle.std.specs.declared.cmp.Ordering.{Ordering}
use Rattle.std.specs.declared.cmp.Ordering.TheVariants.{Less}

-- no member stands after one that is greater
abbrev pub Ascends : {X : Type 0} → (X → X → Ordering) → List X → Type 0
Ascends cmp [] = Unit {0}
Ascends cmp (x ∷ xs) = AllByRecursion (λ y. is_le (cmp x y) ≡ true) xs × Ascends cmp xs

-- each member is below all later ones, so no two tie
abbrev pub RisesStrictly : {X : Type 0} → (X → X → Ordering) → List X → Type 0
RisesStrictly cmp [] = Unit {0}
RisesStrictly cmp (x ∷ xs) = AllByRecursion (λ y. cmp x y ≡ Less) xs × RisesStrictly cmp xs

-- before the first member that is not less
abbrev pub insert_by : {X : Type 0} → (X → X → Ordering) → X → List X → List X
insert_by cmp x [] = x ∷ []
insert_by cmp x (y ∷ ys) = cond (is_le (cmp x y)) (x ∷ y ∷ ys) (y ∷ insert_by cmp x ys)

-- the list in order; members that tie keep their order
abbrev pub sort_by : {X : Type 0} → (X → X → Ordering) → List X → List X
sort_by cmp [] = []
sort_by cmp (x ∷ xs) = insert_by cmp x (sort_by cmp xs)
