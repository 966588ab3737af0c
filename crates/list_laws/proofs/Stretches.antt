-- A stretch of a list in order is a filter of it.
use Rattle.std.specs.List.{AllByRecursion, filter}
use Rattle.std.proofs.Common.{◌≡◌, Bool, true, false, cond, List, [], ◌∷◌, not, ◌&&◌, arith, refl}
use Rattle.list_laws.specs.Stretch.{take_until, Rises, drop_while, stretch}
use Rattle.list_laws.proofs.Lists.{filter_none}

take_step : {X : Type 0} (b p : Bool) (x : X) (ts fs : List X) → b ≡ false → (p ≡ true → fs ≡ [])
    → ts ≡ fs → cond p [] (x ∷ ts) ≡ cond (not b && not p) (x ∷ fs) fs
take_step b p x ts fs hb hp e = grind arith

-- all that is past fails the test
past_fails : {X : Type 0} (before past : X → Bool) (xs : List X)
    → AllByRecursion (λ y. past y ≡ true) xs
    → AllByRecursion (λ y. (not (before y) && not (past y)) ≡ false) xs
past_fails before past [] h = tt
past_fails before past (x ∷ xs) h = (grind (arith, h.0), past_fails before past xs h.1)

-- from an element on that is not before, nothing is before
pub take_until_is : {X : Type 0} (before past : X → Bool) (xs : List X)
    → AllByRecursion (λ y. before y ≡ false) xs → Rises past xs
    → take_until past xs ≡ filter (λ x. not (before x) && not (past x)) xs
take_until_is before past [] h r = refl
take_until_is before past (x ∷ xs) h r =
    take_step (before x) (past x) x (take_until past xs) _ h.0
    (λ p. filter_none _ xs (past_fails before past xs (r.0 p)))
    (take_until_is before past xs h.1 r.1)

not_before : {X : Type 0} (before : X → Bool) (xs : List X)
    → AllByRecursion (λ y. not (before y) ≡ true) xs → AllByRecursion (λ y. before y ≡ false) xs
not_before before [] h = tt
not_before before (x ∷ xs) h = (grind (arith, h.0), not_before before xs h.1)

-- the test of what a stretch takes
abbrev pub within : {X : Type 0} → (X → Bool) → (X → Bool) → X → Bool
within before past x = not (before x) && not (past x)

stretch_cases : {X : Type 0} (before past : X → Bool) (x : X) (xs : List X)
    → Rises (λ x. not (before x)) (x ∷ xs) → Rises past (x ∷ xs)
    → stretch before past xs ≡ filter (within before past) xs → (v : Bool) → before x ≡ v
    → take_until past (cond v (drop_while before xs) (x ∷ xs))
    ≡ filter (within before past) (x ∷ xs)
stretch_cases before past x xs b r ih true e = rw e ih
stretch_cases before past x xs b r ih false e =
    take_until_is before past (x ∷ xs) (e, not_before before xs (b.0 (rw e refl))) r

-- a stretch of a list in order is a filter of it
pub stretch_is : {X : Type 0} (before past : X → Bool) (xs : List X)
    → Rises (λ x. not (before x)) xs → Rises past xs
    → stretch before past xs ≡ filter (within before past) xs
stretch_is before past [] b r = refl
stretch_is before past (x ∷ xs) b r =
    stretch_cases before past x xs b r (stretch_is before past xs b.1 r.1) (before x) refl
