-- Nested loops: each places a row of its item for each assignment of the loops outside it.
use Rattle.std.specs.Prelude.{List, Option, ℕ, Some, slice_set, Bool, true, false, cond, [], ◌∷◌}
use Rattle.std.specs.Prelude.{◌≡◌, None, slice_index_or, ◌≢◌, ◌&&◌, ◌<◌, length}
use Rattle.std.specs.List.{AllByRecursion, flat_map, filter}

-- an assignment: a row for each item that is placed, and nothing for the others
abbrev pub Env : Type 0 → Type 0
Env X = List (Option X)

-- the row x for the item i
abbrev pub place : {X : Type 0} → Env X → ℕ → X → Env X
place env i x = slice_set env i (Some x)

-- all of the tests hold
abbrev pub all_hold : {X : Type 0} → List (Env X → Bool) → Env X → Bool
all_hold [] a = true
all_hold (c ∷ cs) a = cond (c a) (all_hold cs a) false

-- the two give these items the same rows
abbrev pub Agree : {X : Type 0} → List ℕ → Env X → Env X → Type 0
Agree items env a = AllByRecursion (λ i. slice_index_or a i None ≡ slice_index_or env i None) items

-- a loop: the item that it places; the rows that it walks, given those of the loops outside it; and
-- the test that a row must pass for the loops inside
pub record Step (X : Type 0) : Type 0 where
  pub item : ℕ
  pub walk : Env X → List X
  pub test : Env X → Bool

-- what the innermost loop sees, in its order
abbrev pub nested : {X : Type 0} → List (Step X) → Env X → List (Env X)
nested [] env = env ∷ []
nested (t ∷ ts) env =
    flat_map (λ x. cond (t.test (place env t.item x)) (nested ts (place env t.item x)) [])
    (t.walk env)

-- the product of the items' rows, built from left to right; an item's rows may depend on those to
-- its left
abbrev pub product : {X : Type 0} → (ℕ → Env X → List X) → List ℕ → Env X → List (Env X)
product rows [] env = env ∷ []
product rows (i ∷ items) env = flat_map (λ x. product rows items (place env i x)) (rows i env)

-- the same items in another order, where only items that are free change places
pub data Rearranges (free : ℕ → Bool) : List ℕ → List ℕ → Type 0 where
  same : (items : List ℕ) → Rearranges free items items
  next : (i : ℕ) (items others : List ℕ) → Rearranges free items others
      → Rearranges free (i ∷ items) (i ∷ others)
  swapped : (i j : ℕ) (items : List ℕ) → i ≢ j → free i ≡ true → free j ≡ true
      → Rearranges free (i ∷ j ∷ items) (j ∷ i ∷ items)
  after : (items others more : List ℕ) → Rearranges free items others → Rearranges free others more
      → Rearranges free items more

-- the rows of a free item depend on no other item's
abbrev pub AreFree : {X : Type 0} → (ℕ → Bool) → (ℕ → Env X → List X) → Type 0
AreFree {X} free rows = (i : ℕ) → free i ≡ true → (env a : Env X) → rows i a ≡ rows i env

-- the row of each loop is one that its walk was asked for, and passes its test; the list has for
-- each loop which of its item's rows the walk was asked for
abbrev pub kept : {X : Type 0} → List (Env X → Bool) → List (Step X) → Env X → Bool
kept [] loops a = true
kept (asked ∷ others) [] a = true
kept (asked ∷ others) (t ∷ ts) a = asked a && (t.test a && kept others ts a)

-- the items in the order of their loops
abbrev pub step_items : {X : Type 0} → List (Step X) → List ℕ
step_items [] = []
step_items (t ∷ ts) = t.item ∷ step_items ts

-- the test depends on the rows of these items alone
abbrev pub Looks : {X : Type 0} → List ℕ → (Env X → Bool) → Type 0
Looks {X} items p = (env a : Env X) → Agree items env a → p a ≡ p env

-- a loop that keeps its word, after these items were placed: it walks the same rows as those of its
-- item that it was asked for (in another order, or only weighed alike); what it looks at is placed
pub record IsStep {X : Type 0} (like : List X → List X → Type 0) (rows : ℕ → Env X → List X)
    (placed : List ℕ) (asked : Env X → Bool) (t : Step X) : Type 0
  where
    pub walks : (env : Env X) → t.item < length env
        → like (t.walk env) (filter (λ x. asked (place env t.item x)) (rows t.item env))
    pub asked_looks : Looks (t.item ∷ placed) asked
    pub test_looks : Looks (t.item ∷ placed) t.test

-- each loop keeps its word, after those outside it
abbrev pub AreSteps : {X : Type 0} → (List X → List X → Type 0) → (ℕ → Env X → List X) → List ℕ
    → List (Env X → Bool) → List (Step X) → Type 0
AreSteps like rows placed [] [] = Unit {0}
AreSteps like rows placed [] (t ∷ ts) = ⊥
AreSteps like rows placed (asked ∷ others) [] = ⊥
AreSteps like rows placed (asked ∷ others) (t ∷ ts) =
    IsStep like rows placed asked t × AreSteps like rows (t.item ∷ placed) others ts

-- each number stands once
abbrev pub Distinct : List ℕ → Type 0
Distinct [] = Unit {0}
Distinct (i ∷ is) = AllByRecursion (λ j. j ≢ i) is × Distinct is

-- no item of the one list is one of the other
abbrev pub Apart : List ℕ → List ℕ → Type 0
Apart placed items = AllByRecursion (λ j. AllByRecursion (λ k. k ≢ j) items) placed

-- each item has a place in the assignment
abbrev pub Inside : {X : Type 0} → List ℕ → Env X → Type 0
Inside items env = AllByRecursion (λ i. i < length env) items

-- what was found has the same members as a list, but for some that were left out early; and one is
-- left out only where no rows of the other items make all conjuncts hold
pub record IsPartOf {X : Type 0} (like : List (Env X) → List (Env X) → Type 0) (items : List ℕ)
    (conjuncts : List (Env X → Bool)) (found members : List (Env X)) : Type 0
  where
    pub stays : Env X → Bool
    pub permutes : like found (filter stays members)
    pub left_out : (h : Env X) → stays h ≡ false → (a : Env X) → Agree items h a
        → all_hold conjuncts a ≡ false
