-- Of members that are the same, the first that comes.
use Rattle.std.specs.Prelude.{Bool, false, List, [], ◌∷◌, ◌||◌, cond}

-- some member is the same as x
abbrev pub has : {X : Type 0} → (X → X → Bool) → List X → X → Bool
has E [] x = false
has E (y ∷ ys) x = E y x || has E ys x

-- each member at its first coming, and none that is the same as one of `seen`
abbrev pub keep_first : {X : Type 0} → (X → X → Bool) → List X → List X → List X
keep_first E seen [] = []
keep_first E seen (x ∷ xs) =
    cond (has E seen x) (keep_first E seen xs) (x ∷ keep_first E (x ∷ seen) xs)

-- of members behind x, each that differs from the one before it
abbrev pub dedup_behind : {X : Type 0} → (X → X → Bool) → X → List X → List X
dedup_behind E x [] = []
dedup_behind E x (y ∷ ys) = cond (E x y) (dedup_behind E y ys) (y ∷ dedup_behind E y ys)
