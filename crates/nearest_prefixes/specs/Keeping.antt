-- The nearest of each group of rivals, kept one by one as they come.
use Rattle.std.specs.Prelude.{ℕ, Bool, cond, List, [], ◌∷◌, take}
use Rattle.std.specs.Ordering.{is_le}
use Rattle.std.specs.declared.cmp.Ordering.{Ordering}

-- without the first member that is a rival of x
abbrev pub drop_rival : {X : Type 0} → (X → X → Bool) → X → List X → List X
drop_rival E x [] = []
drop_rival E x (y ∷ ys) = cond (E y x) ys (y ∷ drop_rival E x ys)

-- x comes to a list in order that holds no two rivals: behind a rival it goes; else it stands behind
-- all that go before it or tie, and its rival goes
abbrev pub put : {X : Type 0} → (X → X → Bool) → (X → X → Ordering) → X → List X → List X
put E cmp x [] = x ∷ []
put E cmp x (y ∷ ys) =
    cond (is_le (cmp y x)) (cond (E y x) (y ∷ ys) (y ∷ put E cmp x ys))
    (x ∷ drop_rival E x (y ∷ ys))

-- of which the first n stay
abbrev pub joined : {X : Type 0} → ℕ → (X → X → Bool) → (X → X → Ordering) → List X → X → List X
joined n E cmp kept x = take n (put E cmp x kept)
